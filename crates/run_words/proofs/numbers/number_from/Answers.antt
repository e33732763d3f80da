use Rattle.std.proofs.Common.{sym, ◌∙◌, arith}
use Rattle.run_words.proofs.NumberLemmas.{number_from-unparsed}
use Rattle.run_words.proofs.numbers.number_from.Goals as goal

pub returns-in_default-clause-value : goal.returns-in_default-clause-value
returns-in_default-clause-value c =
    number_from-unparsed c.args.least c.args.most c.args.word.now _ _ (omega arith) c.parse.ensures.value.0 c.in_default.is (sym c.are_digits.ensures ∙ c.if-not-are_digits.false)
