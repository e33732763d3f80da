use Rattle.std.proofs.Common.{sym, ◌∙◌}
use Rattle.host_name.proofs.GrammarLemmas.{is_port-unparsed}
use Rattle.host_name.proofs.parse.port_number.Goals as goal

pub returns-in-Err-clause-value : goal.returns-in-Err-clause-value
returns-in-Err-clause-value c = rw (is_port-unparsed c.args.digits.now _ _ c.parse.ensures.value.0 c.in-Err.is (sym c.is_digits.ensures ∙ c.if-not-is_digits.false))
