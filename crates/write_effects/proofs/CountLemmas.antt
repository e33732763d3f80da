-- How many entries of a log a test keeps, by how often a key stands in it.
use Rattle.std.proofs.Common.{◌≡◌, ◌≤◌, ◌+◌, ℕ, Bool, true, false, List, [], ◌∷◌, cond, length, refl, ap, arith}
use Rattle.std.proofs.lemmas.Bool.{false≢true}
use Rattle.std.proofs.lemmas.List.Elements.{All-head, All-tail, All-weaker}
use Rattle.std.specs.List.{All, filter}
use Rattle.member_core.specs.Keys.{same_key}
use Rattle.member_core.specs.Logs.{times}
use Rattle.member_core.specs.declared.key.Key.{Key}
use Rattle.member_core.specs.declared.log.LogEntry.{LogEntry}

below_step : (b c : Bool) (e : LogEntry) (kept : List LogEntry) (t : ℕ) → (b ≡ true → c ≡ true) → length kept ≤ t → length (cond b (e ∷ kept) kept) ≤ cond c 1 0 + t
below_step true true e kept t f h = omega (arith, h)
below_step true false e kept t f h = absurd (false≢true (f refl))
below_step false true e kept t f h = omega (arith, h)
below_step false false e kept t f h = omega (arith, h)

-- No more than have the key, where each of them has it.
pub kept_below : (p : LogEntry → Bool) (key : Key) (log : List LogEntry) → All (λ e. p e ≡ true → same_key e.key key ≡ true) log → length (filter p log) ≤ times key log
kept_below p key [] all = omega arith
kept_below p key (e ∷ log) all =
    below_step (p e) (same_key e.key key) e (filter p log) (times key log)
    (All-head (λ x. p x ≡ true → same_key x.key key ≡ true) e log all)
    (kept_below p key log (All-tail (λ x. p x ≡ true → same_key x.key key ≡ true) e log all))

above_step : (b c : Bool) (e : LogEntry) (kept : List LogEntry) (t : ℕ) → (c ≡ true → b ≡ true) → t ≤ length kept → cond c 1 0 + t ≤ length (cond b (e ∷ kept) kept)
above_step true true e kept t f h = omega (arith, h)
above_step true false e kept t f h = omega (arith, h)
above_step false true e kept t f h = absurd (false≢true (f refl))
above_step false false e kept t f h = omega (arith, h)

-- No fewer, where each that has the key is kept.
pub kept_above : (p : LogEntry → Bool) (key : Key) (log : List LogEntry) → All (λ e. same_key e.key key ≡ true → p e ≡ true) log → times key log ≤ length (filter p log)
kept_above p key [] all = omega arith
kept_above p key (e ∷ log) all =
    above_step (p e) (same_key e.key key) e (filter p log) (times key log)
    (All-head (λ x. same_key x.key key ≡ true → p x ≡ true) e log all)
    (kept_above p key log (All-tail (λ x. same_key x.key key ≡ true → p x ≡ true) e log all))

once_at : (Q : LogEntry → Type 0) (p : LogEntry → Bool) → ((e x : LogEntry) → Q e → Q x → p e ≡ true → p x ≡ true → same_key e.key x.key ≡ true)
    → (x : LogEntry) (log : List LogEntry) → All Q (x ∷ log) → ((key : Key) → times key (x ∷ log) ≤ 1) → length (filter p log) ≤ 1
    → (b : Bool) → p x ≡ b → length (filter p (x ∷ log)) ≤ 1
once_at Q p same x log all once others true e =
    let here : Q x = All-head Q x log all in
    let keys : All (λ y. p y ≡ true → same_key y.key x.key ≡ true) (x ∷ log) = All-weaker Q (λ y. p y ≡ true → same_key y.key x.key ≡ true) (λ y q py. same y x q here py e) (x ∷ log) all in
    omega (arith, kept_below p x.key (x ∷ log) keys, once x.key)
once_at Q p same x log all once others false e =
    let less : length (filter p (x ∷ log)) ≡ length (filter p log) = ap (λ b. length (cond b (x ∷ filter p log) (filter p log))) e in
    omega (arith, less, others)

fewer : (c : Bool) (t : ℕ) → cond c 1 0 + t ≤ 1 → t ≤ 1
fewer true t h = omega (arith, h)
fewer false t h = omega (arith, h)

-- At most one, where those that are kept have one key, and each key stands at most once.
pub kept_once : (Q : LogEntry → Type 0) (p : LogEntry → Bool) → ((e x : LogEntry) → Q e → Q x → p e ≡ true → p x ≡ true → same_key e.key x.key ≡ true)
    → (log : List LogEntry) → All Q log → ((key : Key) → times key log ≤ 1) → length (filter p log) ≤ 1
kept_once Q p same [] all once = omega arith
kept_once Q p same (x ∷ log) all once =
    once_at Q p same x log all once (kept_once Q p same log (All-tail Q x log all) (λ key. fewer (same_key x.key key) (times key log) (once key))) (p x) refl
