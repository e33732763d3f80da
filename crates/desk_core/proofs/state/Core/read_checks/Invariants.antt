-- The core may go on, and up to there its trail was only appended to.
use Rattle.std.proofs.Common.{◌≤◌, ◌-◌}
use Rattle.net_link.specs.Causes.{Rose}
use Rattle.desk_core.specs.Appends.{AppendsAside}
use Rattle.desk_core.specs.Kept.{IsReady}
use Rattle.desk_core.proofs.state.Core.read_checks.Given as goal

abbrev pub invariant-reading : goal.invariant-reading
invariant-reading g l =
    (l.place ≤ l.count) × IsReady l.self l.moment × (g.N.Net.faults l.fn.self.net ≤ g.N.Net.faults l.self.net)
    × AppendsAside (Rose (g.N.Net.faults l.fn.self.net) (g.N.Net.faults l.self.net)) l.moment l.fn.self.trail l.self.trail

abbrev pub decreases-reading : goal.decreases-reading
decreases-reading g l = l.count - l.place
