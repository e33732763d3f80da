use Rattle.std.proofs.Common.{[]}
use Rattle.wired_trail.proofs.CallLemmas.{IsKept-plain}
use Rattle.wired_trail.proofs.FaultLemmas.{plain-quiet}
use Rattle.wired_trail.proofs.KeptLemmas.{told-silent}
use Rattle.wired_trail.proofs.ToldLemmas.{plain}
use Rattle.wired_trail.proofs.trail.WiredTrail.append.Goals as goal

pub invariant_of-self : goal.invariant_of-self
invariant_of-self g c =
    let stands = rw (← c.self.view_is) at c.requires.stands in
    let is = rw (← c.self.view_is) at c.requires.plain in
    IsKept-plain g.N.Net.tells (g.N.Net.is_open c.self.inside.net) (g.N.Net.next c.self.inside.net) (g.N.Net.faults c.self.inside.net) (g.N.Net.history c.self.inside.net) c.self.inside.lines c.self.inside.pendings _ _ _ _ stands.0 c.self.inside.trail c.append.new.self
    (g.met.N.Net.below c.self.inside.net) (c.append.ensures.adds stands.0 stands.1)
    (plain-quiet c.self.inside.trail.lists c.self.inside.lines _ stands.0 stands.1 (is stands.0 stands.1)) (is stands.0 stands.1) c.self.invariant

pub returns-clause-silent : goal.returns-clause-silent
returns-clause-silent g c =
    let stands = rw (← c.self.view_is) at c.requires.stands in
    let is = rw (← c.self.view_is) at c.requires.plain in
    rw (← c.self.view_is)
    (told-silent _ _ _ _ stands.0 c.self.inside.trail c.append.new.self (c.append.ensures.adds stands.0 stands.1)
    (plain c.self.inside.trail.client c.self.inside.trail.point.state c.args.moment c.self.inside.lines [] stands.0 (is stands.0 stands.1)).silent)
