-- How many of a list pass a test, behind each change of the list.
use Rattle.std.proofs.Common.{◌≡◌, ℕ, zero, suc, ◌+◌, ◌-◌, ◌≤◌, Bool, true, false, not, cond, List, [], ◌∷◌, ◌++◌, length, take, Some, refl, ap, arith}
use Rattle.std.specs.Prelude.{slice_get}
use Rattle.std.specs.List.{filter, find}
use Rattle.pool_book.specs.Sound.{times}

pub times-append : {X : Type 0} (q : X → Bool) (xs ys : List X) → times q (xs ++ ys) ≡ times q xs + times q ys
times-append q [] ys = omega arith
times-append q (x ∷ xs) ys = omega (arith, times-append q xs ys)

pub times-push : {X : Type 0} (q : X → Bool) (xs : List X) (y : X) → times q (xs ++ y ∷ []) ≡ times q xs + cond (q y) 1 0
times-push q xs y = omega (arith, times-append q xs (y ∷ []))

-- a filter keeps no more of them
pub times-filter_most : {X : Type 0} (q p : X → Bool) (xs : List X) → times q (filter p xs) ≤ times q xs
times-filter_most q p [] = omega arith
times-filter_most q p (x ∷ xs) =
    let k = times-filter_most q p xs in
    elim (p x) as (λ b. times q (cond b (x ∷ filter p xs) (filter p xs)) ≤ times q (x ∷ xs)) [ true ↦ omega (arith, k) | false ↦ omega (arith, k) ]

-- where none passes, the filter by those that do not keeps all
pub filter-times_none : {X : Type 0} (p : X → Bool) (xs : List X) → times p xs ≡ 0 → filter (λ x. not (p x)) xs ≡ xs
filter-times_none p [] h = refl
filter-times_none p (x ∷ xs) h =
    elim (p x) as (λ b. cond b 1 0 + times p xs ≡ 0 → cond (not b) (x ∷ filter (λ x. not (p x)) xs) (filter (λ x. not (p x)) xs) ≡ x ∷ xs) [
      | true ↦ λ k. absurd (omega arith)
      | false ↦ λ k. let none : times p xs ≡ 0 = omega arith in ap (λ ys. x ∷ ys) (filter-times_none p xs none)
    ] h

-- what is found is counted
pub times-found : {X : Type 0} (p : X → Bool) (xs : List X) (x : X) → find p xs ≡ Some x → 1 ≤ times p xs
times-found p [] x e = absurd (cc)
times-found p (y ∷ ys) x e =
    elim (p y) as (λ b. cond b (Some y) (find p ys) ≡ Some x → 1 ≤ cond b 1 0 + times p ys) [
      | true ↦ λ _. omega arith
      | false ↦ λ k. let here = times-found p ys x k in omega arith
    ] e

-- what is counted is found
pub find-times : {X : Type 0} (p : X → Bool) (xs : List X) → 1 ≤ times p xs → (x : X) × (find p xs ≡ Some x)
find-times p [] h = absurd (omega arith)
find-times p (y ∷ ys) h =
    elim (p y) as (λ b. 1 ≤ cond b 1 0 + times p ys → (x : _) × (cond b (Some y) (find p ys) ≡ Some x)) [
      | true ↦ λ _. (y, refl)
      | false ↦ λ k. find-times p ys (omega arith)
    ] h

-- where one alone passes, the filter by those that do not takes it out
pub times-taken : {X : Type 0} (q p : X → Bool) (xs : List X) (h : X) → find p xs ≡ Some h → times p xs ≤ 1 →
    times q (filter (λ x. not (p x)) xs) + cond (q h) 1 0 ≡ times q xs
times-taken q p [] h e m = absurd (cc)
times-taken q p (y ∷ ys) h e m =
    elim (p y) as (λ b. cond b (Some y) (find p ys) ≡ Some h → cond b 1 0 + times p ys ≤ 1 → times q (cond (not b) (y ∷ filter (λ x. not (p x)) ys) (filter (λ x. not (p x)) ys)) + cond (q h) 1 0 ≡ cond (q y) 1 0 + times q ys) [
      | true ↦ λ found most.
          let same : y ≡ h = cc in
          let none : times p ys ≡ 0 = omega arith in
          rw (filter-times_none p ys none, same) (omega arith)
      | false ↦ λ found most. let rest = times-taken q p ys h found (omega arith) in omega arith
    ] e m

times-last_at : {X : Type 0} (q : X → Bool) (n : ℕ) (xs : List X) (x : X) → length xs ≡ suc n → slice_get xs n ≡ Some x →
    times q (take n xs) + cond (q x) 1 0 ≡ times q xs
times-last_at q n [] x l e = absurd (omega arith)
times-last_at q zero (y ∷ []) x l e = let same : y ≡ x = cc in rw same (omega arith)
times-last_at q zero (y ∷ z ∷ zs) x l e = absurd (omega arith)
times-last_at q (suc n) (y ∷ ys) x l e =
    let rest = times-last_at q n ys x (omega arith) e in omega arith

-- the last one and those ahead of it
pub times-last : {X : Type 0} (q : X → Bool) (xs : List X) (x : X) → slice_get xs (length xs - 1) ≡ Some x →
    times q (take (length xs - 1) xs) + cond (q x) 1 0 ≡ times q xs
times-last q [] x e = absurd (cc)
times-last q (y ∷ ys) x e =
    let same : length (y ∷ ys) - 1 ≡ length ys = omega arith in
    rw same (times-last_at q (length ys) (y ∷ ys) x refl (rw same at e))

-- the filter by those that do not pass keeps none that does
pub times-filter_none : {X : Type 0} (p : X → Bool) (xs : List X) → times p (filter (λ x. not (p x)) xs) ≡ 0
times-filter_none p [] = refl
times-filter_none p (x ∷ xs) =
    elim (p x) as (λ b. p x ≡ b → times p (cond (not b) (x ∷ filter (λ y. not (p y)) xs) (filter (λ y. not (p y)) xs)) ≡ 0) [
      | true ↦ λ _. times-filter_none p xs
      | false ↦ λ e. rw e (let rest = times-filter_none p xs in omega arith)
    ] refl
