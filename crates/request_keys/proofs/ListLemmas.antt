-- Lists in which the item at one place changes, and lists that part.
use Rattle.std.proofs.Common.{◌≡◌, ◌⊎◌, ℕ, zero, suc, Bool, cond, eqb, List, [], ◌∷◌, ◌++◌, drop, Option, None, Some, refl, sym, ap, ◌∙◌, subst, arith, inl, inr}
use Rattle.std.specs.Prelude.{slice_get, slice_set}
use Rattle.std.specs.List.{AllByRecursion}
use Rattle.std.specs.Option.{option_map}
use Rattle.std.proofs.lemmas.Bool.Decides.{eqb_tells}
use Rattle.desk_trail.specs.States.{changed, changed_at}

pub slice_get-set_same : {A : Type 0} (xs : List A) (k : ℕ) (x y : A) → slice_get xs k ≡ Some y → slice_get (slice_set xs k x) k ≡ Some x
slice_get-set_same [] k x y h = absurd (cc)
slice_get-set_same (z ∷ zs) zero x y h = refl
slice_get-set_same (z ∷ zs) (suc k) x y h = slice_get-set_same zs k x y h

pub slice_get-set_other : {A : Type 0} (xs : List A) (k i : ℕ) (x : A) → (k ≡ i → ⊥) → slice_get (slice_set xs k x) i ≡ slice_get xs i
slice_get-set_other [] k i x h = refl
slice_get-set_other (z ∷ zs) zero zero x h = absurd (h refl)
slice_get-set_other (z ∷ zs) zero (suc i) x h = refl
slice_get-set_other (z ∷ zs) (suc k) zero x h = refl
slice_get-set_other (z ∷ zs) (suc k) (suc i) x h = slice_get-set_other zs k i x (λ e. h (omega arith))

-- at the place that changes, and elsewhere
at-same : {A : Type 0} (xs : List A) (k : ℕ) (f : A → A) (o : Option A) → slice_get xs k ≡ o → slice_get (changed_at xs k o f) k ≡ option_map f o
at-same xs k f None h = h
at-same xs k f (Some x) h = slice_get-set_same xs k (f x) x h

at-other : {A : Type 0} (xs : List A) (k i : ℕ) (f : A → A) (o : Option A) → (k ≡ i → ⊥) → slice_get (changed_at xs k o f) i ≡ slice_get xs i
at-other xs k i f None n = refl
at-other xs k i f (Some x) n = slice_get-set_other xs k i (f x) n

pub map-same : {A : Type 0} (o : Option A) → option_map (λ x. x) o ≡ o
map-same None = refl
map-same (Some x) = refl

-- each place of a list in which one changes
pub changed-get : {A : Type 0} (xs : List A) (k i : ℕ) (f : A → A) → slice_get (changed xs k f) i ≡ option_map (λ x. cond (eqb k i) (f x) x) (slice_get xs i)
changed-get {A} xs k i f = elim (eqb_tells k i) [
  | inl w ↦
      subst (λ (b : Bool). slice_get (changed xs k f) i ≡ option_map (λ (x : A). cond b (f x) x) (slice_get xs i)) (sym w.0)
      (subst (λ n. slice_get (changed xs k f) n ≡ option_map f (slice_get xs n)) w.1 (at-same xs k f (slice_get xs k) refl))
  | inr w ↦
      subst (λ (b : Bool). slice_get (changed xs k f) i ≡ option_map (λ (x : A). cond b (f x) x) (slice_get xs i)) (sym w.0)
      (at-other xs k i f (slice_get xs k) w.1 ∙ sym (map-same (slice_get xs i)))
]

-- two changes one after another
pub map-twice : {A : Type 0} (f g : A → A) (o : Option A) → option_map g (option_map f o) ≡ option_map (λ x. g (f x)) o
map-twice f g None = refl
map-twice f g (Some x) = refl

-- what stood there ahead of a change
pub map-was : {A B : Type 0} (f : A → B) (o : Option A) (y : B) → option_map f o ≡ Some y → (x : A) × (o ≡ Some x) × (y ≡ f x)
map-was f None y e = absurd (cc)
map-was f (Some x) y e = let same : f x ≡ y = (cc) in (x, refl, sym same)

-- ---- Each item

pub all-more : {A : Type 0} (P : A → Type 0) (xs ys : List A) → AllByRecursion P xs → AllByRecursion P ys → AllByRecursion P (xs ++ ys)
all-more P [] ys h k = k
all-more P (x ∷ xs) ys h k = (h.0, all-more P xs ys h.1 k)

pub all-front : {A : Type 0} (P : A → Type 0) (xs ys : List A) → AllByRecursion P (xs ++ ys) → AllByRecursion P xs
all-front P [] ys h = tt
all-front P (x ∷ xs) ys h = (h.0, all-front P xs ys h.1)

pub all-at : {A : Type 0} (P : A → Type 0) (xs : List A) (k : ℕ) (x : A) → AllByRecursion P xs → slice_get xs k ≡ Some x → P x
all-at P [] k x h e = absurd (cc)
all-at P (y ∷ ys) zero x h e = let same : y ≡ x = (cc) in subst P same h.0
all-at P (y ∷ ys) (suc k) x h e = all-at P ys k x h.1 e

pub all-set : {A : Type 0} (P : A → Type 0) (xs : List A) (k : ℕ) (x : A) → AllByRecursion P xs → P x → AllByRecursion P (slice_set xs k x)
all-set P [] k x h p = tt
all-set P (y ∷ ys) zero x h p = (p, h.1)
all-set P (y ∷ ys) (suc k) x h p = (h.0, all-set P ys k x h.1 p)

pub all-drop : {A : Type 0} (P : A → Type 0) (xs : List A) → AllByRecursion P xs → AllByRecursion P (drop 1 xs)
all-drop P [] h = tt
all-drop P (x ∷ xs) h = h.1

pub all-each : {A : Type 0} (P Q : A → Type 0) (xs : List A) → ((x : A) → P x → Q x) → AllByRecursion P xs → AllByRecursion Q xs
all-each P Q [] f h = tt
all-each P Q (x ∷ xs) f h = (f x h.0, all-each P Q xs f h.1)

-- ---- A list that parts in two ways

pub record Between {A : Type 0} (xs : List A) (x : A) (ys : List A) : Type 0 where
  pub mid : List A
  pub is : ys ≡ xs ++ x ∷ mid

pub record Same {A : Type 0} (xs : List A) (x : A) (ys : List A) (y : A) : Type 0 where
  pub fronts : xs ≡ ys
  pub items : x ≡ y

pub parts : {A : Type 0} (xs : List A) (x : A) (us ys : List A) (y : A) (vs : List A) → xs ++ x ∷ us ≡ ys ++ y ∷ vs → Same xs x ys y ⊎ (Between xs x ys ⊎ Between ys y xs)
parts [] x us [] y vs e = let same : x ≡ y = (cc) in inl (record { fronts = refl; items = same })
parts [] x us (z ∷ zs) y vs e = let same : z ≡ x = (cc) in inr (inl (record { mid = zs; is = ap (λ a. a ∷ zs) same }))
parts (z ∷ zs) x us [] y vs e = let same : z ≡ y = (cc) in inr (inr (record { mid = zs; is = ap (λ a. a ∷ zs) same }))
parts (z ∷ zs) x us (a ∷ more) y vs e =
    let same : z ≡ a = (cc) in
    let rest : zs ++ x ∷ us ≡ more ++ y ∷ vs = (cc) in
    further (parts zs x us more y vs rest) same
  where
    further : Same zs x more y ⊎ (Between zs x more ⊎ Between more y zs) → z ≡ a → Same (z ∷ zs) x (a ∷ more) y ⊎ (Between (z ∷ zs) x (a ∷ more) ⊎ Between (a ∷ more) y (z ∷ zs))
    further (inl s) g = inl (record { fronts = ap (λ b. b ∷ zs) g ∙ ap (λ bs. a ∷ bs) s.fronts; items = s.items })
    further (inr (inl b)) g = inr (inl (record { mid = b.mid; is = ap (λ bs. a ∷ bs) b.is ∙ ap (λ c. c ∷ (zs ++ x ∷ b.mid)) (sym g) }))
    further (inr (inr b)) g = inr (inr (record { mid = b.mid; is = ap (λ bs. z ∷ bs) b.is ∙ ap (λ c. c ∷ (more ++ y ∷ b.mid)) g }))
