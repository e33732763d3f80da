use Rattle.std.proofs.Common.{List, [], ℕ, take, ap, sym, subst}
use Rattle.msg_wire.specs.Framing.{Framed}
use Rattle.msg_wire.specs.Fronts.{HasNoneTooMany}
use Rattle.desk_wire.specs.State.{State}
use Rattle.desk_wire.proofs.FrontLemmas.{all_of_it, none_too_many-nil}
use Rattle.desk_wire.proofs.wire.Wire.judge.Goals as goal

pub invariant_of-self : goal.invariant_of-self
invariant_of-self c = (c.self.invariant.0, subst HasNoneTooMany (sym c.new.ensures.empty) none_too_many-nil)

pub returns-in-Ok : goal.returns-in-Ok
returns-in-Ok c =
    let framed : Framed (take c.in-Ok.message.length c.self.inside.held.items) c.in-Ok.message
    = subst (λ (l : List ℕ). Framed (take c.in-Ok.message.length l) c.in-Ok.message) c.as_slice.ensures.value c.in-Ok.ensures.found.1 in
    let whole : Framed c.self.inside.held.items c.in-Ok.message = all_of_it c.self.inside.held.items c.in-Ok.message.length c.in-Ok.message c.self.invariant.1 framed in
    (rw c.new.ensures.empty (ap (λ w. let empty : State = record w { held = [] } in empty) c.self.view_is), subst (λ (l : List ℕ). Framed l c.in-Ok.message) (ap (λ w. w.held) c.self.view_is) whole)
