use Rattle.wired_trail.proofs.FaultLemmas.{counted-later}
use Rattle.wired_trail.proofs.KeptLemmas.{kept-wired, wired-later}
use Rattle.wired_trail.proofs.trail.WiredTrail.finish.Goals as goal

pub returns-clause-wired : goal.returns-clause-wired
returns-clause-wired g c = λ tells.
    rw (← c.self.view_is, c.into_parts.ensures.lists, c.into_parts.ensures.steps)
    (wired-later c.self.inside.trail.client (g.N.Net.history c.self.inside.net) (g.N.Net.history c.close_all.new.net) _ (c.close_all.ensures.grows tells) (c.close_all.ensures.seen tells)
    (kept-wired (g.N.Net.history c.self.inside.net) (g.N.Net.next c.self.inside.net) c.self.inside.lines c.self.inside.pendings c.self.inside.trail (c.self.invariant.told tells)))

pub returns-clause-counted : goal.returns-clause-counted
returns-clause-counted g c =
    rw (c.into_parts.ensures.steps)
    (counted-later (g.N.Net.faults c.self.inside.net) (g.N.Net.faults c.close_all.new.net) c.self.inside.trail.steps c.close_all.ensures.cause c.self.invariant.counted)
