use Rattle.std.proofs.Common.{refl}
use Rattle.desk_trail.specs.Facts as fact
use Rattle.wired_trail.proofs.CallLemmas.{IsKept-time}
use Rattle.wired_trail.proofs.KeptLemmas.{told-silent}
use Rattle.wired_trail.proofs.trail.WiredTrail.tell_time.Goals as goal

pub invariant_of-self : goal.invariant_of-self
invariant_of-self g c =
    let came = rw (← c.self.view_is) at c.requires.came in
    IsKept-time g.N.Net.tells (g.N.Net.is_open c.self.inside.net) (g.N.Net.next c.self.inside.net) (g.N.Net.faults c.self.inside.net) (g.N.Net.history c.self.inside.net) c.self.inside.lines c.self.inside.pendings _ _ _ _ _
    c.self.inside.trail c.append.new.self (g.met.N.Net.below c.self.inside.net) (c.append.ensures.adds (fact.Time c.args.stamp) refl) refl came c.self.invariant

pub returns-clause-adds : goal.returns-clause-adds
returns-clause-adds g c = rw (← c.self.view_is) (c.append.ensures.adds (fact.Time c.args.stamp) refl)

pub returns-clause-silent : goal.returns-clause-silent
returns-clause-silent g c =
    rw (← c.self.view_is) (told-silent _ _ _ _ (fact.Time c.args.stamp) c.self.inside.trail c.append.new.self (c.append.ensures.adds (fact.Time c.args.stamp) refl) refl)
