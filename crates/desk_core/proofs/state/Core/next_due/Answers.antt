use Rattle.std.proofs.Common.{sym, ◌∙◌}
use Rattle.desk_core.proofs.KeptLemmas.{servers-of}
use Rattle.desk_core.proofs.state.Core.next_due.Goals as goal

pub returns : goal.returns
returns g c =
    let runs = rw (← c.self.view_is) at c.requires in
    let is = servers-of c.self.inside.wired.trail c.self.inside.wired.lines c.self.inside.topology.topology c.self.inside.servers.items c.self.inside.gossip
    c.self.inside.last (c.self.invariant.leads runs) in
    rw (← c.self.view_is) (c.earliest_of.ensures c.self.inside.wired.trail.point.state (is ∙ sym c.deref.ensures.value))
