use Rattle.net_link.proofs.SeenLemmas.{seen-closed}
use Rattle.wired_trail.proofs.CallLemmas.{IsKept-gone}
use Rattle.wired_trail.proofs.trail.WiredTrail.close.Goals as goal

pub invariant_of-self : goal.invariant_of-self
invariant_of-self g c =
    IsKept-gone g.N.Net.tells (g.N.Net.is_open c.self.inside.net) (g.N.Net.is_open c.close.new.self) (g.N.Net.next c.self.inside.net) (g.N.Net.next c.close.new.self)
    (g.N.Net.faults c.self.inside.net) (g.N.Net.faults c.close.new.self) (g.N.Net.history c.self.inside.net) (g.N.Net.history c.close.new.self) c.self.inside.lines c.take_out.new.self c.self.inside.pendings c.remove.new.self c.self.inside.trail c.args.stream
    c.close.ensures.keeps.numbers c.close.ensures.cause c.close.ensures.keeps.opens (λ t. (c.close.ensures.told t).grows) (λ t s. seen-closed s c.args.stream (c.close.ensures.told t))
    c.take_out.ensures.others c.take_out.ensures.gone c.remove.ensures.others c.self.invariant

pub returns-clause-seen : goal.returns-clause-seen
returns-clause-seen g c = λ t s. rw (← c.self.view_is) (seen-closed s c.args.stream (c.close.ensures.told t))
