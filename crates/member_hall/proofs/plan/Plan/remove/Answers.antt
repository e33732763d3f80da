use Rattle.std.proofs.Common.{◌≡◌, ◌<◌, ◌+◌, ◌∙◌, List, length, drop, sym, subst, ap, arith, length-drop}
use Rattle.std.specs.List.{remove}
use Rattle.std.proofs.lemmas.List.{drop-drop}
use Rattle.std.proofs.lemmas.List.Edits.{length-remove}
use Rattle.member_hall.specs.Orders.{IsInOrder}
use Rattle.member_hall.specs.declared.act.Planned.{Planned}
use Rattle.member_hall.proofs.Ordering.{order-drop, order-remove, remove-behind}
use Rattle.member_hall.proofs.plan.Plan.remove.Goals as goal

pub invariant_of-self : goal.invariant_of-self
invariant_of-self c =
    let acts : List Planned = c.self.inside.acts.items in
    let many = length-drop c.self.inside.gone acts in
    let some : length (drop c.self.inside.gone acts) ≡ length c.args.self.now = ap length c.self.view_is in record {
      within = omega (arith, many, some, c.requires);
      order = λ is. subst IsInOrder (drop-drop 1 c.self.inside.gone acts) (order-drop (drop c.self.inside.gone acts) 1 (c.self.invariant.order is));
    }

pub invariant_of-self-else-place-eq0 : goal.invariant_of-self-else-place-eq0
invariant_of-self-else-place-eq0 c =
    let acts : List Planned = c.self.inside.acts.items in
    let many = length-drop c.self.inside.gone acts in
    let some : length (drop c.self.inside.gone acts) ≡ length c.args.self.now = ap length c.self.view_is in
    let there : c.self.inside.gone + c.args.place < length acts = omega (arith, many, some, c.requires) in
    let left : length c.remove.new.self.items ≡ length (remove acts (c.self.inside.gone + c.args.place)) = ap length c.remove.ensures.items in record {
      within = omega (arith, left, length-remove acts (c.self.inside.gone + c.args.place) there, there);
      order = λ is.
          subst IsInOrder (sym (ap (drop c.self.inside.gone) c.remove.ensures.items ∙ remove-behind c.self.inside.gone c.args.place acts)) (order-remove (drop c.self.inside.gone acts) c.args.place (c.self.invariant.order is));
    }

pub returns-then-place-eq0 : goal.returns-then-place-eq0
returns-then-place-eq0 c = sym (drop-drop 1 c.self.inside.gone c.self.inside.acts.items) ∙ (λ i. remove (c.self.view_is i) (sym c.if-place-eq0.true i))

pub returns-else-place-eq0 : goal.returns-else-place-eq0
returns-else-place-eq0 c =
    ap (drop c.self.inside.gone) c.remove.ensures.items ∙ remove-behind c.self.inside.gone c.args.place c.self.inside.acts.items ∙ ap (λ (l : List Planned). remove l c.args.place) c.self.view_is
