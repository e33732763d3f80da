use Rattle.desk_core.proofs.AppendsLemmas.{Appends-refl}
use Rattle.desk_core.proofs.state.Core.begin_next.Goals as goal

pub returns-then-not-is_due-clause-appends : goal.returns-then-not-is_due-clause-appends
returns-then-not-is_due-clause-appends g c = rw (← c.self.view_is) (Appends-refl c.args.moment c.self.inside.wired.trail)
