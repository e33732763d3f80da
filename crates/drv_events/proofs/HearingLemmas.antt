use Rattle.std.proofs.Common.{◌≡◌, List, [], ◌∷◌, Bool, not, refl, ap, ◌∙◌, subst}
use Rattle.std.specs.Prelude.{cond}
use Rattle.std.specs.List.Retain.{RetainsInTurn}
use Rattle.drv_events.specs.declared.event.Event.{Event}
use Rattle.drv_events.specs.Hearing.{Hears, Delivered}

module _ {S C : Type 0} (heard : S → List Event) (leaves : S → Bool) (e : Event) (R : C → S → Bool → C → S → Type 0) (f : C)
    (says : (x : S) (b : Bool) (g : C) (y : S) → R f x b g y → Hears e (heard x) (heard y) (leaves y) × ((b ≡ not (leaves y)) × (g ≡ f))) where
  -- a closure that tells an event, and stays as it is, delivers it to all
  pub Delivered-from_retain : (xs ys : List S) → RetainsInTurn R f xs ys → Delivered heard leaves e xs ys
  Delivered-from_retain [] ys h = ([], refl, h)
  Delivered-from_retain (x ∷ xs) ys (b, g, y, r, zs, h, q) =
      let said = says x b g y r in
      let rest = Delivered-from_retain xs zs (subst (λ k. RetainsInTurn R k xs zs) said.1.1 h) in
      (y ∷ rest.0, (y, said.0, (rest.0, refl, rest.1)), q ∙ ap (λ c. cond c (y ∷ zs) zs) said.1.0 ∙ ap (λ us. cond (not (leaves y)) (y ∷ us) us) rest.2)
