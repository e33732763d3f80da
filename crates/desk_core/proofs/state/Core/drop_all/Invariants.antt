-- The servers of the hosts so far left.
use Rattle.std.proofs.Common.{◌≤◌}
use Rattle.desk_core.proofs.HostsLemmas.{AreDropped}
use Rattle.desk_core.proofs.state.Core.drop_all.Given as goal

abbrev pub invariant-loop-host : goal.invariant-loop-host
invariant-loop-host g l =
    AreDropped l.moment l.fn.self l.self l.hosts l.host-index × (g.N.Net.faults l.fn.self.net ≤ g.N.Net.faults l.self.net)
