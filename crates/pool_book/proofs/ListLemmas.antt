-- Lemmas on lists of tickets and connections.
use Rattle.std.proofs.Common.{◌≡◌, ℕ, ◌+◌, ◌≤◌, Bool, true, false, not, cond, eqb, List, [], ◌∷◌, length, Option, Some, None, IsSome, IfNone, OnSome, refl, ap, sym, ◌∙◌, ◌||◌, arith}
use Rattle.std.specs.List.{filter, find, list_any}
use Rattle.std.proofs.lemmas.List.Filters.{length-filter_both}
use Rattle.wait_line.specs.Queue.{is_first, without_number}
use Rattle.pool_book.specs.declared.ticket.Ticket.{Ticket}
use Rattle.pool_book.specs.Pool.{without_ticket, numbers_of}

-- a filter keeps one at least where one passes
length-filter_some : {X : Type 0} (p : X → Bool) (xs : List X) → IsSome (find p xs) → 1 ≤ length (filter p xs)
length-filter_some p [] h = absurd (cc)
length-filter_some p (y ∷ ys) h =
    elim (p y) as (λ b. IsSome (cond b (Some y) (find p ys)) → 1 ≤ length (cond b (y ∷ filter p ys) (filter p ys))) [ true ↦ λ _. omega arith | false ↦ λ k. length-filter_some p ys k ] h

-- where one passes, the filter by those that do not keeps fewer
pub length-filter_fewer : {X : Type 0} (p : X → Bool) (xs : List X) → IsSome (find p xs) → length (filter (λ x. not (p x)) xs) + 1 ≤ length xs
length-filter_fewer p xs h =
    omega (arith, length-filter_some p xs h, length-filter_both p (λ x. not (p x)) (λ _. refl) xs)

-- the numbers of the tickets without one
pub numbers_of-without_ticket : (number : ℕ) (ts : List Ticket) → numbers_of (without_ticket number ts) ≡ without_number number (numbers_of ts)
numbers_of-without_ticket number [] = refl
numbers_of-without_ticket number (t ∷ ts) =
    elim (eqb t.number number) as (λ b. numbers_of (cond (not b) (t ∷ without_ticket number ts) (without_ticket number ts)) ≡ cond (not b) (t.number ∷ without_number number (numbers_of ts)) (without_number number (numbers_of ts))) [
      | true ↦ numbers_of-without_ticket number ts
      | false ↦ ap (λ ns. t.number ∷ ns) (numbers_of-without_ticket number ts)
    ]

-- what follows from there being a value holds of it
pub OnSome-from : {X : Type 0} (o : Option X) (P : Type 0) → (IsSome o → P) → OnSome o P
OnSome-from None P h = tt
OnSome-from (Some x) P h = h refl

-- what is found passes
pub find-passes : {X : Type 0} (p : X → Bool) (xs : List X) (x : X) → find p xs ≡ Some x → p x ≡ true
find-passes p [] x e = absurd (cc)
find-passes p (y ∷ ys) x e =
    elim (p y) as (λ b. p y ≡ b → cond b (Some y) (find p ys) ≡ Some x → p x ≡ true) [
      | true ↦ λ passes found. let same : y ≡ x = cc in rw (← same) passes
      | false ↦ λ _ found. find-passes p ys x found
    ] refl e

-- where none is found, none passes
pub list_any-not_found : {X : Type 0} (p : X → Bool) (xs : List X) → find p xs ≡ None → list_any p xs ≡ false
list_any-not_found p [] e = refl
list_any-not_found p (y ∷ ys) e =
    elim (p y) as (λ b. cond b (Some y) (find p ys) ≡ None → (b || list_any p ys) ≡ false) [
      | true ↦ λ found. absurd (cc)
      | false ↦ λ found. list_any-not_found p ys found
    ] e

-- and the filter by those that do not pass keeps all
pub filter-not_found : {X : Type 0} (p : X → Bool) (xs : List X) → find p xs ≡ None → filter (λ x. not (p x)) xs ≡ xs
filter-not_found p [] e = refl
filter-not_found p (y ∷ ys) e =
    elim (p y) as (λ b. cond b (Some y) (find p ys) ≡ None → cond (not b) (y ∷ filter (λ x. not (p x)) ys) (filter (λ x. not (p x)) ys) ≡ y ∷ ys) [
      | true ↦ λ found. absurd (cc)
      | false ↦ λ found. ap (λ zs. y ∷ zs) (filter-not_found p ys found)
    ] e

-- a line with a first has one at least
pub is_first-length : (ts : List Ticket) (number : ℕ) → is_first (numbers_of ts) number ≡ true → 1 ≤ length ts
is_first-length [] number e = absurd (cc)
is_first-length (t ∷ ts) number e = omega arith

-- what holds anyway holds of nothing
pub IfNone-from : {X : Type 0} (o : Option X) (P : Type 0) → P → IfNone o P
IfNone-from None P h = h
IfNone-from (Some x) P h = tt

-- what one test finds is found by another that it passes
pub find-by : {X : Type 0} (p q : X → Bool) (xs : List X) (x : X) → find p xs ≡ Some x → q x ≡ true → IsSome (find q xs)
find-by p q [] x e t = absurd (cc)
find-by p q (y ∷ ys) x e t =
    elim (q y) as (λ b. q y ≡ b → IsSome (cond b (Some y) (find q ys))) [
      | true ↦ λ _. refl
      | false ↦ λ no.
          elim (p y) as (λ b. cond b (Some y) (find p ys) ≡ Some x → IsSome (find q ys)) [
            | true ↦ λ found. let same : y ≡ x = cc in absurd (let wrong : false ≡ true = sym no ∙ rw same t in cc)
            | false ↦ λ found. find-by p q ys x found t
          ] e
    ] refl
