-- The checks of the hosts from there on must begin next.
use Rattle.std.proofs.Common.{◌≤◌}
use Rattle.std.proofs.Math.ListN.{drop}
use Rattle.net_link.specs.Causes.{Rose}
use Rattle.desk_core.specs.Appends.{AppendsAside}
use Rattle.desk_core.specs.Kept.{IsWriting}
use Rattle.desk_core.proofs.BegunLemmas.{begun}
use Rattle.desk_core.proofs.state.Core.begin_all.Given as goal

abbrev pub invariant-loop-host : goal.invariant-loop-host
invariant-loop-host g l =
    IsWriting l.self l.moment 0 (begun (drop l.host-index l.hosts)) × (g.N.Net.faults l.fn.self.net ≤ g.N.Net.faults l.self.net)
    × AppendsAside (Rose (g.N.Net.faults l.fn.self.net) (g.N.Net.faults l.self.net)) l.moment l.fn.self.trail l.self.trail
