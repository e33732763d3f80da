use Rattle.std.proofs.Common.{sym, ◌∙◌}
use Rattle.server_look.proofs.CheckedLemmas.{not-no, not-yes}
use Rattle.server_look.proofs.checked.waits_for.Goals as goal

pub returns-then-not-has_left-clause-yes : goal.returns-then-not-has_left-clause-yes
returns-then-not-has_left-clause-yes c = λ e. (sym c.has_left.ensures.left ∙ c.if-not-has_left.true, c.is_checked.ensures.no (not-yes c.is_checked.result e))

pub returns-then-not-has_left-clause-no : goal.returns-then-not-has_left-clause-no
returns-then-not-has_left-clause-no c = λ e stays. c.is_checked.ensures.yes (not-no c.is_checked.result e)
