-- What the steps of a trail say, part by part.
use Rattle.std.proofs.Common.{◌≡◌, Bool, true, false, ◌&&◌, List, [], ◌∷◌, ◌++◌, refl}
use Rattle.std.specs.List.{list_all}

pub list_all-front : {A : Type 0} (p : A → Bool) (xs ys : List A) → list_all p (xs ++ ys) ≡ true → list_all p xs ≡ true
list_all-front p [] ys h = refl
list_all-front p (x ∷ xs) ys h =
    elim (p x) as (λ b. (b && list_all p (xs ++ ys)) ≡ true → (b && list_all p xs) ≡ true) [
      | true ↦ λ k. list_all-front p xs ys k
      | false ↦ λ k. k
    ] h
