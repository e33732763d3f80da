use Rattle.std.proofs.Common.{arith}
use Rattle.desk_core.proofs.KeptLemmas.{IsKept-later}
use Rattle.desk_core.proofs.state.Core.tick.Goals as goal

pub invariant_of-self : goal.invariant_of-self
invariant_of-self g c =
    let least = c.min.ensures in
    let most = c.max-self-inside.ensures in
    let range = c.self.invariant.in_range in
    IsKept-later c.self.inside.wired.trail c.self.inside.wired.lines c.self.inside.topology.topology c.self.inside.servers.items c.self.inside.gossip c.self.inside.closings
    c.self.inside.last c.max-self-inside.result c.self.inside.stopped (omega arith) (omega arith) c.self.invariant
