-- Lists in which the item at one place changes, and longer ones.
use Rattle.std.proofs.Common.{◌≡◌, ℕ, zero, suc, List, [], ◌∷◌, ◌++◌, length, Option, None, Some, refl, ap, ◌∙◌, subst, arith, inl, inr}
use Rattle.std.specs.Prelude.{slice_get, slice_set}
use Rattle.std.specs.Option.{option_map}
use Rattle.std.proofs.lemmas.Bool.Decides.{eqb_tells}
use Rattle.desk_trail.specs.States.{changed, changed_at}

pub slice_get-set_same : {A : Type 0} (xs : List A) (k : ℕ) (x y : A) → slice_get xs k ≡ Some y → slice_get (slice_set xs k x) k ≡ Some x
slice_get-set_same [] k x y h = absurd (cc)
slice_get-set_same (z ∷ zs) zero x y h = refl
slice_get-set_same (z ∷ zs) (suc k) x y h = slice_get-set_same zs k x y h

pub slice_get-set_other : {A : Type 0} (xs : List A) (k i : ℕ) (x : A) → (k ≡ i → ⊥) → slice_get (slice_set xs k x) i ≡ slice_get xs i
slice_get-set_other [] k i x h = refl
slice_get-set_other (z ∷ zs) zero zero x h = absurd (h refl)
slice_get-set_other (z ∷ zs) zero (suc i) x h = refl
slice_get-set_other (z ∷ zs) (suc k) zero x h = refl
slice_get-set_other (z ∷ zs) (suc k) (suc i) x h = slice_get-set_other zs k i x (λ e. h (omega arith))

-- at the place that changes, and elsewhere
at-same : {A : Type 0} (xs : List A) (k : ℕ) (f : A → A) (o : Option A) → slice_get xs k ≡ o → slice_get (changed_at xs k o f) k ≡ option_map f o
at-same xs k f None h = h
at-same xs k f (Some x) h = slice_get-set_same xs k (f x) x h

at-other : {A : Type 0} (xs : List A) (k i : ℕ) (f : A → A) (o : Option A) → (k ≡ i → ⊥) → slice_get (changed_at xs k o f) i ≡ slice_get xs i
at-other xs k i f None n = refl
at-other xs k i f (Some x) n = slice_get-set_other xs k i (f x) n

pub changed-same : {A : Type 0} (xs : List A) (k : ℕ) (f : A → A) → slice_get (changed xs k f) k ≡ option_map f (slice_get xs k)
changed-same xs k f = at-same xs k f (slice_get xs k) refl

pub changed-other : {A : Type 0} (xs : List A) (k i : ℕ) (f : A → A) → (k ≡ i → ⊥) → slice_get (changed xs k f) i ≡ slice_get xs i
changed-other xs k i f n = at-other xs k i f (slice_get xs k) n

pub read-kept : {A B : Type 0} (g : Option A → B) (f : A → A) → ((x : A) → g (Some (f x)) ≡ g (Some x)) → (o : Option A) → g (option_map f o) ≡ g o
read-kept g f keeps None = refl
read-kept g f keeps (Some x) = keeps x

-- what is read of each item, where the change keeps it
pub changed-keeps : {A B : Type 0} (g : Option A → B) (xs : List A) (k i : ℕ) (f : A → A) → ((x : A) → g (Some (f x)) ≡ g (Some x)) →
    g (slice_get (changed xs k f) i) ≡ g (slice_get xs i)
changed-keeps g xs k i f keeps = elim (eqb_tells k i) [
  | inl w ↦ subst (λ n. g (slice_get (changed xs k f) n) ≡ g (slice_get xs n)) w.1
      (ap g (changed-same xs k f) ∙ read-kept g f keeps (slice_get xs k))
  | inr w ↦ ap g (changed-other xs k i f w.1)
]

-- behind a list
pub slice_get-front : {A : Type 0} (xs ys : List A) (i : ℕ) (x : A) → slice_get xs i ≡ Some x → slice_get (xs ++ ys) i ≡ Some x
slice_get-front [] ys i x e = absurd (cc)
slice_get-front (z ∷ zs) ys zero x e = e
slice_get-front (z ∷ zs) ys (suc i) x e = slice_get-front zs ys i x e

pub slice_get-last : {A : Type 0} (xs : List A) (y : A) → slice_get (xs ++ y ∷ []) (length xs) ≡ Some y
slice_get-last [] y = refl
slice_get-last (x ∷ xs) y = slice_get-last xs y
