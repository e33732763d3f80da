use Rattle.std.proofs.Common.{sym, subst}
use Rattle.legal_trail.specs.Recorded.{Recorded}
use Rattle.desk_core.specs.Kept.{IsKept}
use Rattle.desk_core.proofs.CheckLemmas.{IsKept-dialled}
use Rattle.desk_core.proofs.state.Core.dial_check.Goals as goal

pub invariant_of-self : goal.invariant_of-self
invariant_of-self g c =
    let lines = c.in-Stream.ensures.lines in
    subst
    (λ (t : Recorded). IsKept t c.dial.new.self.lines c.self.inside.topology.topology c.self.inside.servers.items c.self.inside.gossip c.self.inside.closings c.self.inside.last
    c.self.inside.stopped)
    (sym c.dial.ensures.trail)
    (IsKept-dialled c.self.inside.wired.trail c.self.inside.wired.lines c.dial.new.self.lines c.self.inside.topology.topology c.self.inside.servers.items c.self.inside.gossip
    c.self.inside.closings c.self.inside.last c.in-Stream.stream c.self.inside.stopped lines.before lines.others c.self.invariant)
