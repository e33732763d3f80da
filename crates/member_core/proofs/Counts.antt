-- Keys, and how often they stand in a log.
use Rattle.std.proofs.Common.{◌≡◌, ◌≤◌, ◌+◌, ℕ, Bool, true, false, List, [], ◌∷◌, ◌++◌, cond, eqb, refl, ap, ◌∙◌, arith}
use Rattle.std.proofs.lemmas.Bool.{eqb-true, eq-eqb, false≢true, true≢false}
use Rattle.std.proofs.lemmas.Bool.Decides.{Decides-int_eq}
use Rattle.std.specs.Prelude.{◌&&◌}
use Rattle.std.specs.Cmp.{first_so, second_so}
use Rattle.std.specs.Cmp.Lexicographic.{bytes_decides}
use Rattle.std.specs.List.{filter}
use Rattle.std.specs.Ordering.{int_eq}
use Rattle.bson_doc.specs.Ids.{is_same_lsid}
use Rattle.member_core.specs.Keys.{same_key}
use Rattle.member_core.specs.Logs.{times}
use Rattle.member_core.specs.declared.key.Key.{Key}
use Rattle.member_core.specs.declared.key.Key.TheVariants.{Numbered, Placed}
use Rattle.member_core.specs.declared.log.LogEntry.{LogEntry}

-- Keys that the test calls one are one.
pub same_key-is : (a b : Key) → same_key a b ≡ true → a ≡ b
same_key-is (Numbered x n) (Numbered y m) e =
    let ids : x.0 ≡ y.0 = (bytes_decides x.0 y.0).0 (first_so (is_same_lsid x y) (int_eq n m) e) in
    let same : x ≡ y = λ i. record { 0 = ids i } in
    let numbers : n ≡ m = (Decides-int_eq n m).0 (second_so (is_same_lsid x y) (int_eq n m) e) in
    λ i. Numbered (same i) (numbers i)
same_key-is (Placed s n) (Placed t m) e =
    let streams : s ≡ t = eqb-true s t (first_so (eqb s t) (eqb n m) e) in
    let places : n ≡ m = eqb-true n m (second_so (eqb s t) (eqb n m) e) in
    λ i. Placed (streams i) (places i)
same_key-is (Numbered x n) (Placed t m) e = absurd (false≢true e)
same_key-is (Placed s n) (Numbered y m) e = absurd (false≢true e)

pub same_key-self : (a : Key) → same_key a a ≡ true
same_key-self (Numbered x n) =
    let ids : is_same_lsid x x ≡ true = (bytes_decides x.0 x.0).1 refl in
    let numbers : int_eq n n ≡ true = (Decides-int_eq n n).1 refl in
    λ i. ids i && numbers i
same_key-self (Placed s n) =
    let streams : eqb s s ≡ true = eq-eqb s s refl in
    let places : eqb n n ≡ true = eq-eqb n n refl in
    λ i. streams i && places i

pub times-append : (key : Key) (some more : List LogEntry) → times key (some ++ more) ≡ times key some + times key more
times-append key [] more = omega arith
times-append key (entry ∷ some) more = omega (arith, times-append key some more)

-- One entry has a key at most once.
pub times-one_below : (key : Key) (entry : LogEntry) → times key (entry ∷ []) ≤ 1
times-one_below key entry = elim (same_key entry.key key) as (λ b. cond b 1 0 + 0 ≤ 1) [ true ↦ omega arith | false ↦ omega arith ]

pub times-one_other : (key : Key) (entry : LogEntry) → same_key entry.key key ≡ false → times key (entry ∷ []) ≡ 0
times-one_other key entry e = ap (λ b. cond b 1 0 + 0) e

pub times-one_same : (key : Key) (entry : LogEntry) → same_key entry.key key ≡ true → times key (entry ∷ []) ≡ 1
times-one_same key entry e = ap (λ b. cond b 1 0 + 0) e

kept_step : (b c d : Bool) (f t : ℕ) → (c ≡ true → b ≡ d) → f ≡ cond d t 0 → cond b (cond c 1 0 + f) f ≡ cond d (cond c 1 0 + t) 0
kept_step true true true f t h e = omega arith
kept_step true true false f t h e = absurd (true≢false (h refl))
kept_step true false true f t h e = omega arith
kept_step true false false f t h e = omega arith
kept_step false true true f t h e = absurd (false≢true (h refl))
kept_step false true false f t h e = e
kept_step false false true f t h e = omega arith
kept_step false false false f t h e = e

-- What a test of keys keeps of a log.
pub times-filter : (key : Key) (q : Key → Bool) (log : List LogEntry) → times key (filter (λ entry. q entry.key) log) ≡ cond (q key) (times key log) 0
times-filter key q [] = elim (q key) as (λ b. ◌≡◌ {A = ℕ} 0 (cond b 0 0)) [ true ↦ refl | false ↦ refl ]
times-filter key q (entry ∷ log) =
    let others : List LogEntry = filter (λ (x : LogEntry). q x.key) log in
    let inside : times key (cond (q entry.key) (entry ∷ others) others) ≡ cond (q entry.key) (times key (entry ∷ others)) (times key others) =
    elim (q entry.key) as (λ b. times key (cond b (entry ∷ others) others) ≡ cond b (times key (entry ∷ others)) (times key others)) [ true ↦ refl | false ↦ refl ] in
    inside ∙ kept_step (q entry.key) (same_key entry.key key) (q key) (times key others) (times key log) (λ same. ap q (same_key-is entry.key key same)) (times-filter key q log)
