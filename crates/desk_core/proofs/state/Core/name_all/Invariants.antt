-- The hosts so far are named.
use Rattle.std.proofs.Common.{◌≡◌}
use Rattle.desk_core.proofs.HostsLemmas.{AreNamed}
use Rattle.desk_core.proofs.state.Core.name_all.Given as goal

abbrev pub invariant-loop-host : goal.invariant-loop-host
invariant-loop-host g l =
    AreNamed l.moment l.fn.self l.self l.hosts l.host-index × (l.self.net ≡ l.fn.self.net) × (l.self.lines ≡ l.fn.self.lines)
