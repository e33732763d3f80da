use Rattle.desk_trail.specs.Checks.{ended, runs}
use Rattle.server_look.proofs.checked.is_checked.Goals as goal

pub returns-then-has_ended-clause-yes : goal.returns-then-has_ended-clause-yes
returns-then-has_ended-clause-yes c = λ e. let h = c.has_ended.ensures.yes c.if-has_ended.true in ended h.0 h.1 h.2 h.3

pub returns-clause-yes : goal.returns-clause-yes
returns-clause-yes c = λ e. let h = c.runs_dry.ensures.yes e in runs h.0 h.1 h.2 h.3 h.4 h.5
