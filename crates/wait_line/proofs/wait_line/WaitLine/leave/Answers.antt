-- The numbers rise, so the queue without one is the queue without the place where it stands.
use Rattle.std.proofs.Common.{◌∙◌, ◌<◌, length, sym, refl, arith}
use Rattle.std.proofs.lemmas.Option.{slice_get_within}
use Rattle.wait_line.specs.RisingLaws.{Rises-remove, Rises-removed}
use Rattle.wait_line.proofs.QueueLemmas.{left-absent, OnSome-at}
use Rattle.wait_line.proofs.wait_line.WaitLine.leave.Goals as goal

pub returns-in_default-clause-left : goal.returns-in_default-clause-left
returns-in_default-clause-left c = sym (left-absent _ _ c.in_default.ensures.none)

pub invariant_of-self : goal.invariant_of-self
invariant_of-self c =
    let at = rw (← c.self.view_is) at c.in-Some.ensures.some in
    let within : c.in-Some.place < length c.self.inside.waiting.items = slice_get_within c.self.inside.waiting.items c.in-Some.place c.args.number at in
    let removed = OnSome-at _ _ (c.remove.ensures.variant.1 (omega arith)) c.remove.ensures.items in
    rw removed (Rises-removed (λ n. n) 0 _ _ _ _ c.self.invariant at)

pub returns-clause-left : goal.returns-clause-left
returns-clause-left c =
    let at = rw (← c.self.view_is) at c.in-Some.ensures.some in
    let within : c.in-Some.place < length c.self.inside.waiting.items = slice_get_within c.self.inside.waiting.items c.in-Some.place c.args.number at in
    let removed = OnSome-at _ _ (c.remove.ensures.variant.1 (omega arith)) c.remove.ensures.items in
    rw (removed, ← c.self.view_is, Rises-remove (λ n. n) 0 _ _ _ _ c.args.number c.self.invariant at refl) refl

pub returns-clause-absent : goal.returns-clause-absent
returns-clause-absent c h = returns-clause-left c ∙ left-absent _ _ h
