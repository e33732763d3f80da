use Rattle.std.proofs.Common.{refl}
use Rattle.wired_trail.proofs.CallLemmas.{IsKept-plain}
use Rattle.wired_trail.proofs.trail.WiredTrail.lease.Goals as goal

pub invariant_of-self : goal.invariant_of-self
invariant_of-self g c =
    IsKept-plain g.N.Net.tells (g.N.Net.is_open c.self.inside.net) (g.N.Net.next c.self.inside.net) (g.N.Net.faults c.self.inside.net) (g.N.Net.history c.self.inside.net) c.self.inside.lines c.self.inside.pendings _ _ _ _ _ c.self.inside.trail c.lease.new.self
    (g.met.N.Net.below c.self.inside.net) c.lease.ensures.adds refl tt c.self.invariant
