use Rattle.wired_trail.proofs.CallLemmas.{IsKept-told}
use Rattle.wired_trail.proofs.trail.WiredTrail.tell.Goals as goal

pub invariant_of-self : goal.invariant_of-self
invariant_of-self g c =
    let stands = rw (← c.self.view_is) at c.requires.stands in
    let speaks = rw (← c.self.view_is) at c.requires.speaks in
    let counted = rw (← c.self.view_is) at c.requires.counted in
    let heard = rw (← c.self.view_is) at c.requires.heard in
    IsKept-told g.N.Net.tells (g.N.Net.is_open c.self.inside.net) (g.N.Net.next c.self.inside.net) (g.N.Net.faults c.self.inside.net) (g.N.Net.history c.self.inside.net) c.self.inside.lines c.self.inside.pendings c.tell.new.self _ _ _ _ stands.0 c.self.inside.trail c.append.new.self c.args.stream c.is_reply.result
    (g.met.N.Net.below c.self.inside.net) (c.append.ensures.adds stands.0 stands.1) counted (speaks stands.0 stands.1) (λ t. heard t stands.0 stands.1) (c.is_reply.ensures c.self.inside.trail.lists stands.0 stands.1)
    c.tell.ensures.told c.tell.ensures.others c.tell.ensures.none c.self.invariant
