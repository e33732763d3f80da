-- Where no available connection has perished.
use Rattle.std.proofs.Common.{◌≡◌, ℕ, zero, suc, ◌+◌, ◌<◌, ◌≤◌, Bool, true, false, not, ◌&&◌, ◌||◌, cond, eqb, ltb, List, [], ◌∷◌, length, find, Option, Some, None, refl, sym, arith, inl, inr}
use Rattle.std.specs.Prelude.{All}
use Rattle.std.proofs.lemmas.Bool.{eq-eqb, eqb-true, ltb-true, ltb-false, cases_Bool}
use Rattle.std.proofs.lemmas.List.Elements.{All-nil}
use Rattle.pool_book.specs.declared.rules.PoolRules.{PoolRules}
use Rattle.pool_book.specs.declared.connections.Available.{Available}
use Rattle.pool_book.specs.Pool.{is_stale, is_idle}

ltb-later : (a b m : ℕ) → ltb a m ≡ false → a ≤ b → ltb b m ≡ false
ltb-later a b m h l =
    elim (cases_Bool (ltb b m)) [
      | inl less ↦ absurd (omega (arith, ltb-false a m h, ltb-true b m less, l))
      | inr more ↦ more
    ]

idle-later : (r : PoolRules) (earliest since moment : ℕ) → is_idle r earliest moment ≡ false → earliest ≤ since → is_idle r since moment ≡ false
idle-later r earliest since moment h l =
    elim (eqb r.idle_micros 0) as (λ b. (not b && ltb (earliest + r.idle_micros) moment) ≡ false → (not b && ltb (since + r.idle_micros) moment) ≡ false) [
      | true ↦ λ _. refl
      | false ↦ λ k. ltb-later (earliest + r.idle_micros) (since + r.idle_micros) moment k (omega arith)
    ] h

-- what is known of all tells that none has perished
pub find-quiet : (xs : List Available) (r : PoolRules) (g moment earliest : ℕ) → All (λ a. earliest ≤ a.since) xs → All (λ a. a.generation ≡ g) xs →
    is_idle r earliest moment ≡ false → find (λ (a : Available). is_stale g a.generation || is_idle r a.since moment) xs ≡ None
find-quiet [] r g moment earliest s o h = refl
find-quiet (x ∷ xs) r g moment earliest s o h =
    let young : is_idle r x.since moment ≡ false = idle-later r earliest x.since moment h (s 0 x (omega arith)) in
    let current : eqb x.generation g ≡ true = eq-eqb _ _ (o 0 x (omega arith)) in
    rw (current, young) (find-quiet xs r g moment earliest (λ k d l. s (suc k) d (omega arith)) (λ k d l. o (suc k) d (omega arith)) h)
