-- Lemmas on the numbers of a queue.
use Rattle.std.proofs.Common.{zero, suc, Bool, true, ◌||◌, is_some, IsSome, OnSome, eqb, ◌<◌, ◌≤◌, length, get_or, Some, None, Ok, Err, Option, Result, IfSome, IfNone, ◌∙◌, sym, inl, inr, ◌≡◌, ℕ, false, List, [], ◌∷◌, refl, arith, ap}
use Rattle.std.specs.Prelude.{slice_get}
use Rattle.std.specs.Result.{result_ok}
use Rattle.std.specs.Ordering.{nat_cmp}
use Rattle.std.specs.List.Sorted.{IsBinarySearchResult}
use Rattle.std.proofs.lemmas.Bool.{cases_lt, eq-eqb}
use Rattle.std.proofs.lemmas.Option.{slice_get-get_or}
use Rattle.std.proofs.lemmas.List.Sorted.{searched}
use Rattle.wait_line.specs.Rising.{Rises}
use Rattle.wait_line.specs.RisingLaws.{Rises-places, is_among-nowhere}
use Rattle.wait_line.specs.Queue.{Queue, is_among, without_number, left}

-- a number that is not there takes nothing out
without_number-absent : (number : ℕ) (ns : List ℕ) → is_among ns number ≡ false → without_number number ns ≡ ns
without_number-absent number [] h = refl
without_number-absent number (n ∷ ns) h = grind (arith, without_number-absent number ns)

-- and leaves the queue as it is
pub left-absent : (number : ℕ) (q : Queue) → is_among q.waiting number ≡ false → left number q ≡ q
left-absent number q h =
    ap (λ ns. let k : Queue = record { waiting = ns; given = q.given } in k) (without_number-absent number q.waiting h)

-- numbers that rise, by their places
rises : (ns : List ℕ) (b : ℕ) → Rises (λ n. n) 0 ns b → (i j : ℕ) → i ≤ j → j < length ns → get_or ns i 0 ≤ get_or ns j 0
rises ns b r i j l w =
    elim (cases_lt i j) [
      | inl less ↦ let below = Rises-places 0 ns b i j r less w in omega arith
      | inr rest ↦ let same : i ≡ j = omega arith in rw same (omega arith)
    ]

-- what a search by halves says of numbers that rise
pub place-some : (ns : List ℕ) (b number : ℕ) (r : Result ℕ ℕ) (o : Option ℕ) → Rises (λ n. n) 0 ns b → o ≡ result_ok r →
    IsBinarySearchResult (λ y. nat_cmp y number) ns r → IfSome o (λ place. slice_get ns place ≡ Some number)
place-some ns b number (Ok i) o h e s =
    let found = searched ns number (Ok i) s (rises ns b h) in
    rw e (slice_get-get_or ns i 0 found.0 ∙ ap (λ n. Some n) found.1)
place-some ns b number (Err i) o h e s = rw e tt

pub place-none : (ns : List ℕ) (b number : ℕ) (r : Result ℕ ℕ) (o : Option ℕ) → Rises (λ n. n) 0 ns b → o ≡ result_ok r →
    IsBinarySearchResult (λ y. nat_cmp y number) ns r → IfNone o (is_among ns number ≡ false)
place-none ns b number (Ok i) o h e s = rw e tt
place-none ns b number (Err i) o h e s =
    rw e (is_among-nowhere number ns (λ k l same. nowhere k l same)) where
      nowhere : (k : ℕ) → k < length ns → get_or ns k 0 ≡ number → ⊥
      nowhere k l same =
          let there = searched ns number (Err i) s (rises ns b h) in
          elim (cases_lt k i) [
            | inl ahead ↦ let less = there.1 k ahead in omega (arith, same)
            | inr behind ↦ let more = there.2 k behind l in omega (arith, same)
          ]

-- a number that stands somewhere is among them
pub among-at : (number : ℕ) (ns : List ℕ) (i : ℕ) → slice_get ns i ≡ Some number → is_among ns number ≡ true
among-at number [] i e = absurd (cc)
among-at number (n ∷ ns) zero e = let same : n ≡ number = cc in rw (same, eq-eqb number number refl) refl
among-at number (n ∷ ns) (suc i) e = rw (among-at number ns i e) (or-true (eqb n number)) where
  or-true : (b : Bool) → (b || true) ≡ true
  or-true true = refl
  or-true false = refl

pub is_among-place : (ns : List ℕ) (number : ℕ) (o : Option ℕ) → IfSome o (λ place. slice_get ns place ≡ Some number) → IfNone o (is_among ns number ≡ false) →
    is_some o ≡ is_among ns number
is_among-place ns number None s n = sym n
is_among-place ns number (Some i) s n = sym (among-at number ns i s)

-- what follows from there being a value
pub OnSome-at : {X : Type 0} (o : Option X) (P : Type 0) → IsSome o → OnSome o P → P
OnSome-at None P s h = absurd (cc)
OnSome-at (Some x) P s h = h
