use Rattle.wired_trail.proofs.KeptLemmas.{kept-wired}
use Rattle.wired_trail.proofs.trail.WiredTrail.steps.Goals as goal

pub returns-clause-wired : goal.returns-clause-wired
returns-clause-wired g c = λ tells.
    rw (← c.self.view_is) (kept-wired (g.N.Net.history c.self.inside.net) (g.N.Net.next c.self.inside.net) c.self.inside.lines c.self.inside.pendings c.self.inside.trail (c.self.invariant.told tells))
