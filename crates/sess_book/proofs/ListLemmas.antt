-- What stands at a place of a list behind a change.
use Rattle.std.proofs.Common.{◌≡◌, ◌≢◌, ℕ, zero, suc, ◌+◌, ◌-◌, ◌<◌, ◌≤◌, List, [], ◌∷◌, ◌++◌, length, take, Some, refl, sym, ap, ◌∙◌, subst, arith, ◌⊎◌, inl, inr}
use Rattle.std.specs.Prelude.{slice_get, slice_set}

pub length-set : {X : Type 0} (xs : List X) (m : ℕ) (x : X) → length (slice_set xs m x) ≡ length xs
length-set [] m x = refl
length-set (y ∷ ys) zero x = refl
length-set (y ∷ ys) (suc m) x = omega (arith, length-set ys m x)

-- at the place that was set, and elsewhere
pub slice_get-set_same : {X : Type 0} (xs : List X) (k : ℕ) (x y : X) → slice_get xs k ≡ Some y → slice_get (slice_set xs k x) k ≡ Some x
slice_get-set_same [] k x y h = absurd (cc)
slice_get-set_same (z ∷ zs) zero x y h = refl
slice_get-set_same (z ∷ zs) (suc k) x y h = slice_get-set_same zs k x y h

pub slice_get-set_other : {X : Type 0} (xs : List X) (m k : ℕ) (x : X) → (k ≡ m → ⊥) → slice_get (slice_set xs m x) k ≡ slice_get xs k
slice_get-set_other [] m k x h = refl
slice_get-set_other (y ∷ ys) zero zero x h = absurd (h refl)
slice_get-set_other (y ∷ ys) zero (suc k) x h = refl
slice_get-set_other (y ∷ ys) (suc m) zero x h = refl
slice_get-set_other (y ∷ ys) (suc m) (suc k) x h = slice_get-set_other ys m k x (λ e. h (omega arith))

-- in a list with one more at the end
pub slice_get-push : {X : Type 0} (xs : List X) (y : X) (k : ℕ) (x : X) → slice_get (xs ++ y ∷ []) k ≡ Some x →
    (slice_get xs k ≡ Some x) ⊎ ((k ≡ length xs) × (y ≡ x))
slice_get-push [] y zero x e = inr (refl, cc)
slice_get-push [] y (suc k) x e = absurd (cc)
slice_get-push (z ∷ zs) y zero x e = inl e
slice_get-push (z ∷ zs) y (suc k) x e =
    elim (slice_get-push zs y k x e) [ inl w ↦ inl w | inr w ↦ inr (let at = w.0 in omega arith, w.1) ]

pub slice_get-pushed : {X : Type 0} (xs : List X) (y : X) → slice_get (xs ++ y ∷ []) (length xs) ≡ Some y
slice_get-pushed [] y = refl
slice_get-pushed (x ∷ xs) y = slice_get-pushed xs y

-- in the front of a list
pub slice_get-take : {X : Type 0} (n : ℕ) (xs : List X) (k : ℕ) (x : X) → slice_get (take n xs) k ≡ Some x → (k < n) × (slice_get xs k ≡ Some x)
slice_get-take zero xs k x e = absurd (cc)
slice_get-take (suc n) [] k x e = absurd (cc)
slice_get-take (suc n) (y ∷ ys) zero x e = (omega arith, e)
slice_get-take (suc n) (y ∷ ys) (suc k) x e = let inside = slice_get-take n ys k x e in let below = inside.0 in (omega arith, inside.1)
