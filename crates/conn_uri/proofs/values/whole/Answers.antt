use Rattle.std.proofs.Common.{sym, ◌∙◌}
use Rattle.conn_uri.proofs.ValueLemmas.{whole_from-unparsed}
use Rattle.conn_uri.proofs.values.whole.Goals as goal

pub returns-in_default-clause-value : goal.returns-in_default-clause-value
returns-in_default-clause-value c =
    whole_from-unparsed c.args.least c.args.value.now _ _ c.parse.ensures.value.0 c.in_default.is (sym c.is_digits.ensures ∙ c.if-not-is_digits.false)
