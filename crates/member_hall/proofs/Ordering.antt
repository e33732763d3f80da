-- Acts in the order of their turns, and acts of later turns.
use Rattle.std.proofs.Common.{◌≡◌, ◌<◌, ◌≤◌, ◌+◌, ℕ, zero, suc, List, [], ◌∷◌, length, drop, refl, sym, ap, ◌∙◌, subst, arith}
use Rattle.std.specs.List.{remove}
use Rattle.std.proofs.lemmas.List.{drop_more}
use Rattle.member_hall.specs.Halls.{no_act, plan_at}
use Rattle.member_hall.specs.Orders.{ActsFrom, IsInOrder}
use Rattle.member_hall.specs.declared.act.Planned.{Planned}

pub acts-weaker : (u t : ℕ) (plan : List Planned) → u ≤ t → ActsFrom t plan → ActsFrom u plan
acts-weaker u t [] less from = tt
acts-weaker u t (p ∷ plan) less from = (omega (arith, from.0, less), acts-weaker u t plan less from.1)

acts-remove : (t : ℕ) (plan : List Planned) (n : ℕ) → ActsFrom t plan → ActsFrom t (remove plan n)
acts-remove t [] zero from = tt
acts-remove t [] (suc n) from = tt
acts-remove t (p ∷ plan) zero from = from.1
acts-remove t (p ∷ plan) (suc n) from = (from.0, acts-remove t plan n from.1)

pub order-remove : (plan : List Planned) (n : ℕ) → IsInOrder plan → IsInOrder (remove plan n)
order-remove [] zero order = tt
order-remove [] (suc n) order = tt
order-remove (p ∷ plan) zero order = order.1
order-remove (p ∷ plan) (suc n) order = (acts-remove p.turn plan n order.0, order-remove plan n order.1)

pub order-drop : (plan : List Planned) (n : ℕ) → IsInOrder plan → IsInOrder (drop n plan)
order-drop plan zero order = order
order-drop [] (suc n) order = tt
order-drop (p ∷ plan) (suc n) order = order-drop plan n order.1

-- From a place on no act is of an earlier turn than the one there.
pub order-from : (plan : List Planned) (place t : ℕ) → IsInOrder plan → place < length plan → t ≤ (plan_at plan place).turn → ActsFrom t (drop place plan)
order-from plan place t order there late =
    let rest : IsInOrder (plan_at plan place ∷ drop (place + 1) plan) = subst IsInOrder (drop_more plan place no_act there) (order-drop plan place order) in
    subst (ActsFrom t) (sym (drop_more plan place no_act there)) (late, acts-weaker t (plan_at plan place).turn (drop (place + 1) plan) late rest.0)

-- One more in front of those that are in order.
pub order-more : (plan : List Planned) (place t : ℕ) → place < length plan → IsInOrder (drop (place + 1) plan) → ActsFrom t (drop (place + 1) plan) → (plan_at plan place).turn ≤ t
    → IsInOrder (drop place plan) × ActsFrom (plan_at plan place).turn (drop place plan)
order-more plan place t there order from less =
    let behind = acts-weaker (plan_at plan place).turn t (drop (place + 1) plan) less from in
    let is = sym (drop_more plan place no_act there) in
    (subst IsInOrder is (behind, order), subst (ActsFrom (plan_at plan place).turn) is (omega arith, behind))

abbrev none : List Planned
none = []

remove-none : (n : ℕ) → remove none n ≡ none
remove-none zero = refl
remove-none (suc n) = refl

-- An act leaves those behind the ones that are gone.
pub remove-behind : (gone place : ℕ) (plan : List Planned) → drop gone (remove plan (gone + place)) ≡ remove (drop gone plan) place
remove-behind zero place plan = ap (remove plan) (let same : zero + place ≡ place = omega arith in same)
remove-behind (suc gone) place [] = ap (drop (suc gone)) (remove-none (suc gone + place)) ∙ sym (remove-none place)
remove-behind (suc gone) place (p ∷ plan) = ap (λ (n : ℕ). drop (suc gone) (remove (p ∷ plan) n)) (let next : suc gone + place ≡ suc (gone + place) = omega arith in next) ∙ remove-behind gone place plan
