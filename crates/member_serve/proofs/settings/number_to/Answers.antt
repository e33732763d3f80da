use Rattle.std.proofs.Common.{sym, ◌∙◌, arith}
use Rattle.member_serve.proofs.WordLemmas.{number_to-unparsed}
use Rattle.member_serve.proofs.settings.number_to.Goals as goal

pub returns-in_default-clause-value : goal.returns-in_default-clause-value
returns-in_default-clause-value c =
    number_to-unparsed c.args.most c.args.word.now _ _ (omega arith) c.parse.ensures.value.0 c.in_default.is (sym c.is_digits.ensures ∙ c.if-not-is_digits.false)
