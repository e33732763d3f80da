-- Laws of items whose numbers rise, for the proofs of other crates too.
use Rattle.std.proofs.Common.{◌≡◌, ℕ, zero, suc, ◌+◌, ◌<◌, ◌≤◌, Bool, true, false, not, cond, eqb, List, [], ◌∷◌, ◌++◌, length, get_or, filter, find, remove, Some, refl, ap, ◌∙◌, subst, arith, inl, inr}
use Rattle.std.specs.Prelude.{slice_get}
use Rattle.std.specs.List.{list_any}
use Rattle.std.proofs.lemmas.Bool.{eq-eqb}
use Rattle.std.proofs.lemmas.Bool.Decides.{eqb_tells}
use Rattle.wait_line.specs.Rising.{Rises}

pub Rises-weaker : {X : Type 0} (f : X → ℕ) (least more : ℕ) (xs : List X) (b : ℕ) → Rises f more xs b → least ≤ more → Rises f least xs b
Rises-weaker f least more [] b r l = tt
Rises-weaker f least more (x ∷ xs) b r l = (omega (arith, r.0), r.1, r.2)

-- an item behind the others, of the number that is the bound
pub Rises-push : {X : Type 0} (f : X → ℕ) (least : ℕ) (xs : List X) (b : ℕ) (x : X) → Rises f least xs b → least ≤ b → f x ≡ b → Rises f least (xs ++ x ∷ []) (b + 1)
Rises-push f least [] b x r l e = (omega (arith, e), omega (arith, e), tt)
Rises-push f least (y ∷ ys) b x r l e = (r.0, omega (arith, r.1), Rises-push f (f y + 1) ys b x r.2 (omega (arith, r.1)) e)

-- fewer of them
pub Rises-filter : {X : Type 0} (f : X → ℕ) (least : ℕ) (p : X → Bool) (xs : List X) (b : ℕ) → Rises f least xs b → Rises f least (filter p xs) b
Rises-filter f least p [] b r = tt
Rises-filter f least p (x ∷ xs) b r =
    let rest = Rises-filter f (f x + 1) p xs b r.2 in
    elim (p x) as (λ k. Rises f least (cond k (x ∷ filter p xs) (filter p xs)) b) [
      | true ↦ (r.0, r.1, rest)
      | false ↦ Rises-weaker f least (f x + 1) (filter p xs) b rest (omega (arith, r.0))
    ]

Rises-least : {X : Type 0} (f : X → ℕ) (least : ℕ) (xs : List X) (b i : ℕ) (x : X) → Rises f least xs b → slice_get xs i ≡ Some x → least ≤ f x
Rises-least f least [] b i x r e = absurd (cc)
Rises-least f least (y ∷ ys) b zero x r e = let same : y ≡ x = cc in let low = r.0 in omega (arith, ap f same)
Rises-least f least (y ∷ ys) b (suc i) x r e = let more = Rises-least f (f y + 1) ys b i x r.2 e in omega (arith, r.0)

eqb-less : (m n : ℕ) → m < n → eqb m n ≡ false
eqb-less m n l = elim (eqb_tells m n) [ inl w ↦ absurd (omega (arith, w.1)) | inr w ↦ w.0 ]

-- numbers above one are not that one
filter-above : {X : Type 0} (f : X → ℕ) (k : ℕ) (xs : List X) (b : ℕ) → Rises f (k + 1) xs b → filter (λ x. not (eqb (f x) k)) xs ≡ xs
filter-above f k [] b r = refl
filter-above f k (x ∷ xs) b r =
    let other : eqb (f x) k ≡ false = elim (eqb_tells (f x) k) [ inl w ↦ absurd (omega (arith, w.1, r.0)) | inr w ↦ w.0 ] in
    rw other (ap (λ ys. x ∷ ys) (filter-above f k xs b (Rises-weaker f (k + 1) (f x + 1) xs b r.2 (omega (arith, r.0)))))

-- the item of a number is found where it stands, and the others are those ahead of it and behind it
pub Rises-find : {X : Type 0} (f : X → ℕ) (least : ℕ) (xs : List X) (b i : ℕ) (x : X) (k : ℕ) → Rises f least xs b → slice_get xs i ≡ Some x → f x ≡ k →
    find (λ y. eqb (f y) k) xs ≡ Some x
Rises-find f least [] b i x k r e n = absurd (cc)
Rises-find f least (y ∷ ys) b zero x k r e n = let same : y ≡ x = cc in rw (same, n, eq-eqb k k refl) refl
Rises-find f least (y ∷ ys) b (suc i) x k r e n =
    let more = Rises-least f (f y + 1) ys b i x r.2 e in
    rw (eqb-less (f y) k (omega (arith, n))) (Rises-find f (f y + 1) ys b i x k r.2 e n)

pub Rises-remove : {X : Type 0} (f : X → ℕ) (least : ℕ) (xs : List X) (b i : ℕ) (x : X) (k : ℕ) → Rises f least xs b → slice_get xs i ≡ Some x → f x ≡ k →
    filter (λ y. not (eqb (f y) k)) xs ≡ remove xs i
Rises-remove f least [] b i x k r e n = absurd (cc)
Rises-remove f least (y ∷ ys) b zero x k r e n =
    let same : y ≡ x = cc in
    let here : eqb (f y) k ≡ true = eq-eqb _ _ (ap f same ∙ n) in
    let above = filter-above f k ys b (Rises-weaker f (k + 1) (f y + 1) ys b r.2 (omega (arith, n, ap f same))) in
    rw here above
Rises-remove f least (y ∷ ys) b (suc i) x k r e n =
    let more = Rises-least f (f y + 1) ys b i x r.2 e in
    rw (eqb-less (f y) k (omega (arith, n))) (ap (λ zs. y ∷ zs) (Rises-remove f (f y + 1) ys b i x k r.2 e n))

pub Rises-removed : {X : Type 0} (f : X → ℕ) (least : ℕ) (xs : List X) (b i : ℕ) (x : X) → Rises f least xs b → slice_get xs i ≡ Some x → Rises f least (remove xs i) b
Rises-removed f least xs b i x r e =
    subst (λ ys. Rises f least ys b) (Rises-remove f least xs b i x (f x) r e refl) (Rises-filter f least (λ y. not (eqb (f y) (f x))) xs b r)

-- numbers by their places
least_place : (least : ℕ) (ns : List ℕ) (b j : ℕ) → Rises (λ n. n) least ns b → j < length ns → least ≤ get_or ns j 0
least_place least [] b j r w = absurd (omega arith)
least_place least (n ∷ ns) b zero r w = r.0
least_place least (n ∷ ns) b (suc j) r w = let more = least_place (n + 1) ns b j r.2 (omega arith) in omega (arith, r.0)

pub Rises-places : (least : ℕ) (ns : List ℕ) (b i j : ℕ) → Rises (λ n. n) least ns b → i < j → j < length ns → get_or ns i 0 < get_or ns j 0
Rises-places least [] b i j r l w = absurd (omega arith)
Rises-places least (n ∷ ns) b zero zero r l w = absurd (omega arith)
Rises-places least (n ∷ ns) b zero (suc j) r l w = let more = least_place (n + 1) ns b j r.2 (omega arith) in omega arith
Rises-places least (n ∷ ns) b (suc i) zero r l w = absurd (omega arith)
Rises-places least (n ∷ ns) b (suc i) (suc j) r l w = Rises-places (n + 1) ns b i j r.2 (omega arith) (omega arith)

-- a number that stands at no place is not among them
pub is_among-nowhere : (number : ℕ) (ns : List ℕ) → ((i : ℕ) → i < length ns → get_or ns i 0 ≡ number → ⊥) → list_any (λ n. eqb n number) ns ≡ false
is_among-nowhere number [] h = refl
is_among-nowhere number (n ∷ ns) h =
    let other : eqb n number ≡ false = elim (eqb_tells n number) [ inl w ↦ absurd (h 0 (omega arith) w.1) | inr w ↦ w.0 ] in
    rw other (is_among-nowhere number ns (λ i l e. h (suc i) (omega arith) e))
