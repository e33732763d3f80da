use Rattle.std.proofs.Common.{refl, ap, ◌∙◌}
use Rattle.net_link.proofs.SeenLemmas.{seen-closed, seen-dialled, seen-no_dial, seen-none}
use Rattle.wired_trail.specs.Lines.{line_at}
use Rattle.wired_trail.proofs.CallLemmas.{IsKept-begun, IsKept-gone, IsKept-still}
use Rattle.wired_trail.proofs.FaultLemmas.{untold-rose}
use Rattle.wired_trail.proofs.KeptLemmas.{undialled}
use Rattle.wired_trail.proofs.LineLemmas.{fresh, unused-line}
use Rattle.wired_trail.proofs.trail.WiredTrail.dial.Goals as goal

pub invariant_of-self : goal.invariant_of-self
invariant_of-self g c =
    let new = c.in-Stream.ensures.stream in
    IsKept-begun g.N.Net.tells (g.N.Net.is_open c.self.inside.net) (g.N.Net.is_open c.dial.new.self) (g.N.Net.next c.self.inside.net) (g.N.Net.next c.dial.new.self)
    (g.N.Net.faults c.self.inside.net) (g.N.Net.faults c.dial.new.self)
    (g.N.Net.history c.self.inside.net) (g.N.Net.history c.dial.new.self) c.self.inside.lines c.keep.new.lines c.self.inside.pendings c.keep.new.pendings c.self.inside.trail c.in-Stream.stream
    c.args.address.now c.args.is_for c.dial.ensures.keeps.numbers c.dial.ensures.cause.later c.dial.ensures.keeps.opens new.2 new.0 c.in-Stream.ensures.told c.in-Stream.ensures.fresh c.in-Ok.ensures.ok c.in-Ok.ensures.nothing
    c.keep.ensures.others c.self.invariant

pub invariant_of-self-in-Err : goal.invariant_of-self-in-Err
invariant_of-self-in-Err g c =
    let new = c.in-Stream.ensures.stream in
    let none = unused-line (g.N.Net.is_open c.self.inside.net) (g.N.Net.next c.self.inside.net) c.in-Stream.stream c.self.inside.lines _ c.self.invariant.wires (g.met.N.Net.below c.self.inside.net) new.0 in
    IsKept-gone g.N.Net.tells (g.N.Net.is_open c.dial.new.self) (g.N.Net.is_open c.close.new.self) (g.N.Net.next c.dial.new.self) (g.N.Net.next c.close.new.self)
    (g.N.Net.faults c.dial.new.self) (g.N.Net.faults c.close.new.self)
    (g.N.Net.history c.dial.new.self) (g.N.Net.history c.close.new.self) c.self.inside.lines c.keep.new.lines c.self.inside.pendings c.keep.new.pendings c.self.inside.trail c.in-Stream.stream
    c.close.ensures.keeps.numbers c.close.ensures.cause c.close.ensures.keeps.opens (λ t. (c.close.ensures.told t).grows) (λ t s. seen-closed s c.in-Stream.stream (c.close.ensures.told t))
    (λ s _. ap (λ ls. line_at ls s) c.in-Err.ensures.err) (ap (λ ls. line_at ls c.in-Stream.stream) c.in-Err.ensures.err ∙ none) c.keep.ensures.others
    (IsKept-still g.N.Net.tells (g.N.Net.is_open c.self.inside.net) (g.N.Net.is_open c.dial.new.self) (g.N.Net.next c.self.inside.net) (g.N.Net.next c.dial.new.self)
    (g.N.Net.faults c.self.inside.net) (g.N.Net.faults c.dial.new.self)
    (g.N.Net.history c.self.inside.net) (g.N.Net.history c.dial.new.self) c.self.inside.lines c.self.inside.pendings c.self.inside.trail c.dial.ensures.keeps.numbers c.dial.ensures.cause.later c.dial.ensures.keeps.opens
    (λ t. (c.in-Stream.ensures.told t).grows) (λ t s. seen-dialled s c.in-Stream.stream c.args.address.now (c.in-Stream.ensures.told t)) c.self.invariant)

pub invariant_of-self-in-Failed : goal.invariant_of-self-in-Failed
invariant_of-self-in-Failed g c =
    IsKept-still g.N.Net.tells (g.N.Net.is_open c.self.inside.net) (g.N.Net.is_open c.dial.new.self) (g.N.Net.next c.self.inside.net) (g.N.Net.next c.dial.new.self)
    (g.N.Net.faults c.self.inside.net) (g.N.Net.faults c.dial.new.self)
    (g.N.Net.history c.self.inside.net) (g.N.Net.history c.dial.new.self) c.self.inside.lines c.self.inside.pendings c.self.inside.trail c.dial.ensures.keeps.numbers c.dial.ensures.cause.later c.dial.ensures.keeps.opens
    (λ t. (c.in-Failed.ensures.told t).grows) (λ t s. seen-no_dial s c.args.address.now (c.in-Failed.ensures.told t)) c.self.invariant

pub invariant_of-self-in-Memory : goal.invariant_of-self-in-Memory
invariant_of-self-in-Memory g c =
    IsKept-still g.N.Net.tells (g.N.Net.is_open c.self.inside.net) (g.N.Net.is_open c.dial.new.self) (g.N.Net.next c.self.inside.net) (g.N.Net.next c.dial.new.self)
    (g.N.Net.faults c.self.inside.net) (g.N.Net.faults c.dial.new.self)
    (g.N.Net.history c.self.inside.net) (g.N.Net.history c.dial.new.self) c.self.inside.lines c.self.inside.pendings c.self.inside.trail c.dial.ensures.keeps.numbers c.dial.ensures.cause.later c.dial.ensures.keeps.opens
    (λ t. (c.in-Memory.ensures.told t).grows) (λ t s. seen-none s (c.in-Memory.ensures.told t)) c.self.invariant

pub returns-in-Ok-clause-fresh : goal.returns-in-Ok-clause-fresh
returns-in-Ok-clause-fresh g c =
    rw (← c.self.view_is)
    (fresh (g.N.Net.next c.self.inside.net) c.in-Stream.stream c.self.inside.trail.point.state c.self.invariant.wires.given c.in-Stream.ensures.stream.0)

pub returns-in-Failed-clause-untold : goal.returns-in-Failed-clause-untold
returns-in-Failed-clause-untold g c = λ t is.
    undialled (g.N.Net.history c.self.inside.net) (g.N.Net.history c.dial.new.self) c.args.address.now c.self.inside.trail (c.in-Failed.ensures.told t) (c.self.invariant.told t).dials

pub returns-in-Failed-clause-counted : goal.returns-in-Failed-clause-counted
returns-in-Failed-clause-counted g c = λ failed.
    untold-rose (g.N.Net.faults c.self.inside.net) (g.N.Net.faults c.dial.new.self) c.self.inside.trail.steps (c.in-Failed.ensures.cause.rose refl) c.self.invariant.counted
