use Rattle.std.proofs.Common.{refl}
use Rattle.wired_trail.proofs.CallLemmas.{IsKept-offered}
use Rattle.wired_trail.proofs.trail.WiredTrail.offer.Goals as goal

pub invariant_of-self : goal.invariant_of-self
invariant_of-self g c =
    let speaks = rw (← c.self.view_is) at c.requires.speaks in
    let heard = rw (← c.self.view_is) at c.requires.heard in
    let on = c.reply_stream.ensures in
    IsKept-offered g.N.Net.tells (g.N.Net.is_open c.self.inside.net) (g.N.Net.next c.self.inside.net) (g.N.Net.faults c.self.inside.net) (g.N.Net.history c.self.inside.net) c.self.inside.lines c.self.inside.pendings c.tell.new.self _ _ _ _ _ c.args.event c.args.taken c.self.inside.trail c.offer.new.self c.args.stream
    (g.met.N.Net.below c.self.inside.net) c.offer.ensures.adds refl speaks heard (rw on at c.tell.ensures.told) (rw on at c.tell.ensures.others) (rw on at c.tell.ensures.none) c.self.invariant
