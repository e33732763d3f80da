use Rattle.std.proofs.Common.{refl}
use Rattle.desk_core.proofs.AppendsLemmas.{grown-same}
use Rattle.desk_core.proofs.state.Core.check_in.Goals as goal

pub returns-in_default-clause-appends : goal.returns-in_default-clause-appends
returns-in_default-clause-appends g c = rw (← c.self.view_is) (grown-same c.args.moment c.self.inside.wired.trail c.self.inside.wired.trail refl refl refl)

pub returns-then-self-clause-appends : goal.returns-then-self-clause-appends
returns-then-self-clause-appends g c = rw (← c.self.view_is) (grown-same c.args.moment c.self.inside.wired.trail c.self.inside.wired.trail refl refl refl)
