-- An index of keys, and the log that it is of.
use Rattle.std.proofs.Common.{◌≡◌, ◌≤◌, ◌<◌, ◌+◌, ◌-◌, ℕ, zero, suc, Bool, true, false, List, [], ◌∷◌, ◌++◌, Option, Some, None, length, take, drop, get_or, cond, eqb, refl, sym, ap, ◌∙◌, arith, inl, inr}
use Rattle.std.proofs.lemmas.Bool.{cases_lt, false_from_ne_true, false≢true, ne_eqb}
use Rattle.std.proofs.lemmas.Cmp.{tied_itself}
use Rattle.std.proofs.lemmas.Iterator.Adapters.{position_from-zero}
use Rattle.std.proofs.lemmas.List.{length-take-le, take-append-drop, take_more}
use Rattle.std.proofs.lemmas.Map.Lookups.{exact_bytes, exact_signed, exact_unsigned}
use Rattle.std.specs.Prelude.{IsSome, ◌||◌, ◌&&◌, position, slice_get}
use Rattle.std.specs.BTreeMap.{BTreeMap, get, is_at}
use Rattle.std.specs.List.{position_from, zip}
use Rattle.std.specs.Option.{is_none, is_some, option_and_then}
use Rattle.std.specs.Ordering.{int_cmp, is_eq, nat_cmp, ordering_then}
use Rattle.std.specs.declared.cmp.Ordering.{Ordering}
use Rattle.std.specs.declared.cmp.Ordering.TheVariants.{Less, Equal, Greater}
use Rattle.bson_doc.specs.Ids.{lsid_cmp}
use Rattle.member_core.specs.Keys.{same_key}
use Rattle.member_core.specs.Logs.{times}
use Rattle.member_core.specs.Members.{is_acked}
use Rattle.member_core.specs.Places.{HasNoneTwice, HasPlaces, if_there, key_cmp, place_by, placed}
use Rattle.member_core.specs.contracts.key.KeyOrd.TheImpl.Laws.{total-law}
use Rattle.member_core.specs.declared.key.Key.{Key}
use Rattle.member_core.specs.declared.key.Key.TheVariants.{Numbered, Placed}
use Rattle.member_core.specs.declared.log.LogEntry.{LogEntry}
use Rattle.member_core.proofs.Bits.{same_bool}
use Rattle.member_core.proofs.Counts.{same_key-is, same_key-self, times-append}

-- ---- the order of keys

both_equal : (a b : Ordering) → ordering_then a b ≡ Equal → (a ≡ Equal) × (b ≡ Equal)
both_equal Less b e = absurd (let clash : ⊥ = cc in clash)
both_equal Equal b e = (refl, e)
both_equal Greater b e = absurd (let clash : ⊥ = cc in clash)

key_is : (a b : Key) → key_cmp a b ≡ Equal → a ≡ b
key_is (Numbered x n) (Numbered y m) e =
    let parts = both_equal (lsid_cmp x y) (int_cmp n m) e in
    let ids : x.0 ≡ y.0 = exact_bytes x.0 y.0 parts.0 in
    let same : x ≡ y = λ i. record { 0 = ids i } in
    let numbers : n ≡ m = exact_signed n m parts.1 in
    λ i. Numbered (same i) (numbers i)
key_is (Placed s n) (Placed t m) e =
    let parts = both_equal (nat_cmp s t) (nat_cmp n m) e in
    let streams : s ≡ t = exact_unsigned s t parts.0 in
    let places : n ≡ m = exact_unsigned n m parts.1 in
    λ i. Placed (streams i) (places i)
key_is (Numbered x n) (Placed t m) e = absurd (let clash : Less ≡ Equal = e in let never : ⊥ = cc in never)
key_is (Placed s n) (Numbered y m) e = absurd (let clash : Greater ≡ Equal = e in let never : ⊥ = cc in never)

equal_is : (o : Ordering) → is_eq o ≡ true → o ≡ Equal
equal_is Less e = absurd (false≢true e)
equal_is Equal e = refl
equal_is Greater e = absurd (false≢true e)

pub is_at-same : (a b : Key) → is_at (key_cmp a) b ≡ same_key a b
is_at-same a b =
    same_bool (is_at (key_cmp a) b) (same_key a b) (λ at. ap (same_key a) (sym (key_is a b (equal_is (key_cmp a b) at))) ∙ same_key-self a)
    (λ same. ap (λ k. is_eq (key_cmp a k)) (sym (same_key-is a b same)) ∙ ap is_eq (tied_itself total-law a))

-- ---- how often a key stands in a log

pub times-at : (log : List LogEntry) (i : ℕ) (entry : LogEntry) (key : Key) → slice_get log i ≡ Some entry → same_key entry.key key ≡ true → 1 ≤ times key log
times-at [] i entry key at same = absurd (let clash : ⊥ = cc in clash)
times-at (first ∷ log) zero entry key at same =
    let is : first ≡ entry = cc in
    let one : ◌≡◌ {A = ℕ} (cond (same_key first.key key) 1 0) 1 = ap (λ (e : LogEntry). cond (same_key e.key key) 1 0) is ∙ ap (λ b. cond b 1 0) same in
    omega (arith, one)
times-at (first ∷ log) (suc i) entry key at same = omega (arith, times-at log i entry key at same)

pub times-zero : (log : List LogEntry) (key : Key) → ((i : ℕ) (entry : LogEntry) → slice_get log i ≡ Some entry → same_key entry.key key ≡ false) → times key log ≡ 0
times-zero [] key none = refl
times-zero (first ∷ log) key none =
    let here : ◌≡◌ {A = ℕ} (cond (same_key first.key key) 1 0) 0 = ap (λ b. cond b 1 0) (none zero first refl) in
    let rest = times-zero log key (λ i entry at. none (suc i) entry at) in
    omega (arith, here, rest)

-- ---- the place of a key behind entries

placed-append : (from : ℕ) (log : List LogEntry) (entry : LogEntry) (key : Key) (was : Option ℕ) →
    placed from (log ++ entry ∷ []) key was ≡ cond (same_key entry.key key) (Some (from + length log)) (placed from log key was)
placed-append from [] entry key was = let at : from ≡ from + 0 = omega arith in ap (λ n. cond (same_key entry.key key) (Some n) was) at
placed-append from (first ∷ log) entry key was =
    let at : from + 1 + length log ≡ from + length (first ∷ log) = omega arith in
    placed-append (from + 1) log entry key (cond (same_key first.key key) (Some from) was)
    ∙ ap (λ n. cond (same_key entry.key key) (Some n) (placed (from + 1) log key (cond (same_key first.key key) (Some from) was))) at

placed-none : (from : ℕ) (log : List LogEntry) (key : Key) (was : Option ℕ) → times key log ≡ 0 → placed from log key was ≡ was
placed-none from [] key was none = refl
placed-none from (first ∷ log) key was none = by (same_key first.key key) none (λ rest w. placed-none (from + 1) log key w rest)
  where
    by : (b : Bool) → cond b 1 0 + times key log ≡ 0 → (times key log ≡ 0 → (w : Option ℕ) → placed (from + 1) log key w ≡ w) → placed (from + 1) log key (cond b (Some from) was) ≡ was
    by true none inner = absurd (omega arith)
    by false none inner = let rest : times key log ≡ 0 = omega arith in inner rest was

placed-at : (from : ℕ) (log : List LogEntry) (i : ℕ) (entry : LogEntry) (was : Option ℕ) → slice_get log i ≡ Some entry → times entry.key log ≤ 1 → placed from log entry.key was ≡ Some (from + i)
placed-at from [] i entry was at once = absurd (let clash : ⊥ = cc in clash)
placed-at from (first ∷ log) zero entry was at once =
    let is : first ≡ entry = cc in
    let same : same_key first.key entry.key ≡ true = ap (λ (e : LogEntry). same_key e.key entry.key) is ∙ same_key-self entry.key in
    let one : ◌≡◌ {A = ℕ} (cond (same_key first.key entry.key) 1 0) 1 = ap (λ b. cond b 1 0) same in
    let none : times entry.key log ≡ 0 = omega (arith, one, once) in
    let there : from ≡ from + 0 = omega arith in
    placed-none (from + 1) log entry.key (cond (same_key first.key entry.key) (Some from) was) none ∙ ap (λ b. cond b (Some from) was) same ∙ ap (λ (n : ℕ). Some n) there
placed-at from (first ∷ log) (suc i) entry was at once =
    let some = times-at log i entry entry.key at (same_key-self entry.key) in
    let rest : times entry.key log ≤ 1 = omega (arith, once) in
    let there : from + 1 + i ≡ from + suc i = omega arith in
    placed-at (from + 1) log i entry (cond (same_key first.key entry.key) (Some from) was) at rest ∙ ap (λ (n : ℕ). Some n) there

some_cond : (b : Bool) (from : ℕ) (was : Option ℕ) → IsSome was → IsSome (cond b (Some from) was)
some_cond true from was some = refl
some_cond false from was some = some

pub placed-some : (from : ℕ) (log : List LogEntry) (key : Key) (was : Option ℕ) → IsSome was → IsSome (placed from log key was)
placed-some from [] key was some = some
placed-some from (first ∷ log) key was some = placed-some (from + 1) log key (cond (same_key first.key key) (Some from) was) (some_cond (same_key first.key key) from was some)

-- ---- an index, entry by entry

abbrev pub Puts : BTreeMap Key ℕ → BTreeMap Key ℕ → ℕ → List LogEntry → Type 0
Puts old new from log = (key : Key) → get key_cmp new key ≡ placed from log key (get key_cmp old key)

pub puts-more : (old mid new : BTreeMap Key ℕ) (from : ℕ) (log : List LogEntry) (i : ℕ) (d : LogEntry) → i < length log → Puts old mid from (take i log)
    → ((q : Key) → get key_cmp new q ≡ cond (is_at (key_cmp (get_or log i d).key) q) (Some (from + i)) (get key_cmp mid q)) → Puts old new from (take (i + 1) log)
puts-more old mid new from log i d below before updates key =
    let entry = get_or log i d in
    let count : length (take i log) ≡ i = length-take-le i log (omega (arith, below)) in
    let was = get key_cmp old key in
    updates key
    ∙ ap (λ b. cond b (Some (from + i)) (get key_cmp mid key)) (is_at-same entry.key key)
    ∙ ap (λ o. cond (same_key entry.key key) (Some (from + i)) o) (before key)
    ∙ ap (λ n. cond (same_key entry.key key) (Some (from + n)) (placed from (take i log) key was)) (sym count)
    ∙ sym (placed-append from (take i log) entry key was)
    ∙ ap (λ l. placed from l key was) (sym (take_more log i d below))

-- ---- no key stands twice

abbrev HasFrom : BTreeMap Key ℕ → ℕ → List LogEntry → Type 0
HasFrom index k log = (i : ℕ) (entry : LogEntry) → slice_get log i ≡ Some entry → get key_cmp index entry.key ≡ Some (k + i)

has-rest : (index : BTreeMap Key ℕ) (k : ℕ) (first : LogEntry) (log : List LogEntry) → HasFrom index k (first ∷ log) → HasFrom index (k + 1) log
has-rest index k first log has i entry at = has (suc i) entry at ∙ ap (λ (n : ℕ). Some n) (let there : k + suc i ≡ k + 1 + i = omega arith in there)

some_same : (o : Option ℕ) (a b : ℕ) → o ≡ Some a → o ≡ Some b → a ≡ b
some_same o a b e f = cc

-- an entry of the key stands where the index says
at_place : (index : BTreeMap Key ℕ) (k : ℕ) (log : List LogEntry) (key : Key) → HasFrom index k log → (i : ℕ) (entry : LogEntry) → slice_get log i ≡ Some entry → same_key entry.key key ≡ true
    → get key_cmp index key ≡ Some (k + i)
at_place index k log key has i entry at same = ap (get key_cmp index) (sym (same_key-is entry.key key same)) ∙ has i entry at

times-past : (index : BTreeMap Key ℕ) (key : Key) (p k : ℕ) (log : List LogEntry) → get key_cmp index key ≡ Some p → p < k → HasFrom index k log → times key log ≡ 0
times-past index key p k log at past has =
    times-zero log key (λ i entry there. false_from_ne_true (same_key entry.key key) (λ same.
    let one = some_same (get key_cmp index key) p (k + i) at (at_place index k log key has i entry there same) in omega (arith, one, past)))

times-once : (index : BTreeMap Key ℕ) (key : Key) (k : ℕ) (log : List LogEntry) → HasFrom index k log → times key log ≤ 1
times-once index key k [] has = omega arith
times-once index key k (first ∷ log) has = by (same_key first.key key) refl (times-once index key (k + 1) log (has-rest index k first log has))
  where
    by : (b : Bool) → same_key first.key key ≡ b → times key log ≤ 1 → cond b 1 0 + times key log ≤ 1
    by true same rest =
        let at : get key_cmp index key ≡ Some (k + 0) = at_place index k (first ∷ log) key has zero first refl same in
        let none = times-past index key (k + 0) (k + 1) log at (omega arith) (has-rest index k first log has) in
        omega (arith, none)
    by false same rest = omega (arith, rest)

from-zero : (index : BTreeMap Key ℕ) (log : List LogEntry) → HasPlaces index log → HasFrom index 0 log
from-zero index log has i entry at = has.at i entry at ∙ ap (λ (n : ℕ). Some n) (let there : i ≡ 0 + i = omega arith in there)

pub none_twice : (index : BTreeMap Key ℕ) (log : List LogEntry) → HasPlaces index log → HasNoneTwice log
none_twice index log has = record { once = λ key. times-once index key 0 log (from-zero index log has) }

-- ---- by places

slice_get-left : (xs ys : List LogEntry) (i : ℕ) → i < length xs → slice_get (xs ++ ys) i ≡ slice_get xs i
slice_get-left [] ys i below = absurd (omega arith)
slice_get-left (x ∷ xs) ys zero below = refl
slice_get-left (x ∷ xs) ys (suc i) below = slice_get-left xs ys i (let rest : i < length xs = omega arith in rest)

slice_get-right : (xs ys : List LogEntry) (i : ℕ) → slice_get (xs ++ ys) (length xs + i) ≡ slice_get ys i
slice_get-right [] ys i = ap (slice_get ys) (let same : 0 + i ≡ i = omega arith in same)
slice_get-right (x ∷ xs) ys i =
    let there : length (x ∷ xs) + i ≡ suc (length xs + i) = omega arith in ap (slice_get (x ∷ xs ++ ys)) there ∙ slice_get-right xs ys i

pub slice_get-drop : (n : ℕ) (xs : List LogEntry) (i : ℕ) → n ≤ length xs → slice_get (drop n xs) i ≡ slice_get xs (n + i)
slice_get-drop n xs i within =
    sym (slice_get-right (take n xs) (drop n xs) i)
    ∙ ap (λ l. slice_get l (length (take n xs) + i)) (take-append-drop n xs)
    ∙ ap (λ k. slice_get xs (k + i)) (length-take-le n xs within)

in_front : (n : ℕ) (xs ys : List LogEntry) (i : ℕ) (entry : LogEntry) → n ≤ length xs → i < n → slice_get (take n xs ++ ys) i ≡ Some entry → (slice_get (take n xs) i ≡ Some entry) × (slice_get xs i ≡ Some entry)
in_front n xs ys i entry within below at =
    let count : length (take n xs) ≡ n = length-take-le n xs within in
    let front : slice_get (take n xs) i ≡ Some entry = sym (slice_get-left (take n xs) ys i (omega (arith, count))) ∙ at in
    (front, ap (λ l. slice_get l i) (sym (take-append-drop n xs)) ∙ slice_get-left (take n xs) (drop n xs) i (omega (arith, count)) ∙ front)

behind : (n : ℕ) (xs ys : List LogEntry) (i : ℕ) (entry : LogEntry) → n ≤ length xs → n ≤ i → slice_get (take n xs ++ ys) i ≡ Some entry → slice_get ys (i - n) ≡ Some entry
behind n xs ys i entry within past at =
    let count : length (take n xs) ≡ n = length-take-le n xs within in
    let there : length (take n xs) + (i - n) ≡ i = omega (arith, count) in
    sym (slice_get-right (take n xs) ys (i - n)) ∙ ap (slice_get (take n xs ++ ys)) there ∙ at

-- the index of a log whose entries behind a place gave way to others
pub put-has : (old new : BTreeMap Key ℕ) (from : ℕ) (log more : List LogEntry) → HasPlaces old log → from ≤ length log → HasNoneTwice (take from log ++ more) → Puts old new from more
    → HasPlaces new (take from log ++ more)
put-has old new from log more has within once puts = record {
  at = λ place entry at. elim (cases_lt place from) [
    | inl below ↦
        let front = in_front from log more place entry within below at in
        let some = times-at (take from log) place entry entry.key front.0 (same_key-self entry.key) in
        let none : times entry.key more ≡ 0 = omega (arith, once.once entry.key, times-append entry.key (take from log) more, some) in
        puts entry.key ∙ placed-none from more entry.key (get key_cmp old entry.key) none ∙ has.at place entry front.1
    | inr past ↦
        let there = behind from log more place entry within past at in
        let single : times entry.key more ≤ 1 = omega (arith, once.once entry.key, times-append entry.key (take from log) more) in
        puts entry.key ∙ placed-at from more (place - from) entry (get key_cmp old entry.key) there single
        ∙ ap (λ (n : ℕ). Some n) (let same : from + (place - from) ≡ place = omega arith in same)
  ];
}

-- the index of a log that stays, behind entries that it took in and those that stand there
pub restored : (old mid new : BTreeMap Key ℕ) (from n : ℕ) (log more : List LogEntry) → HasPlaces old log → from ≤ length log → HasNoneTwice (take from log ++ more) → Puts old mid from (take n more)
    → Puts mid new from (drop from log) → HasPlaces new log
restored old mid new from n log more has within once puts again = record {
  at = λ place entry at.
      let at_all : slice_get (take from log ++ drop from log) place ≡ Some entry = ap (λ l. slice_get l place) (take-append-drop from log) ∙ at in
      let own : times entry.key (take from log) + times entry.key (drop from log) ≤ 1 =
      omega (arith, (none_twice old log has).once entry.key, times-append entry.key (take from log) (drop from log), ap (times entry.key) (take-append-drop from log)) in
      elim (cases_lt place from) [
        | inl below ↦
            let front = in_front from log (drop from log) place entry within below at_all in
            let some = times-at (take from log) place entry entry.key front.0 (same_key-self entry.key) in
            let none : times entry.key (drop from log) ≡ 0 = omega (arith, own, some) in
            let lacked : times entry.key (take n more) ≡ 0 =
            omega (arith, once.once entry.key, times-append entry.key (take from log) more, some, times-append entry.key (take n more) (drop n more), ap (times entry.key) (take-append-drop n more)) in
            again entry.key ∙ placed-none from (drop from log) entry.key (get key_cmp mid entry.key) none
            ∙ puts entry.key ∙ placed-none from (take n more) entry.key (get key_cmp old entry.key) lacked ∙ has.at place entry at
        | inr past ↦
            let there = behind from log (drop from log) place entry within past at_all in
            let single : times entry.key (drop from log) ≤ 1 = omega (arith, own) in
            again entry.key ∙ placed-at from (drop from log) (place - from) entry (get key_cmp mid entry.key) there single
            ∙ ap (λ (n : ℕ). Some n) (let same : from + (place - from) ≡ place = omega arith in same)
      ];
}

-- it has the keys that stand there
pub still_known : (old mid : BTreeMap Key ℕ) (from n : ℕ) (log more : List LogEntry) → HasPlaces old log → from ≤ length log → Puts old mid from (take n more)
    → (i : ℕ) (entry : LogEntry) → slice_get (drop from log) i ≡ Some entry → IsSome (get key_cmp mid entry.key)
still_known old mid from n log more has within puts i entry at =
    let was : get key_cmp old entry.key ≡ Some (from + i) = has.at (from + i) entry (sym (slice_get-drop from log i within) ∙ at) in
    let some : IsSome (get key_cmp old entry.key) = ap is_some was in
    ap is_some (puts entry.key) ∙ placed-some from (take n more) entry.key (get key_cmp old entry.key) some

-- ---- a key that is looked for

from-none : (k : ℕ) (log : List LogEntry) (key : Key) → times key log ≡ 0 → position_from (λ entry. same_key entry.key key) k log ≡ None
from-none k [] key none = refl
from-none k (first ∷ log) key none = by (same_key first.key key) none (λ rest. from-none (k + 1) log key rest)
  where
    by : (b : Bool) → cond b 1 0 + times key log ≡ 0 → (times key log ≡ 0 → position_from (λ (entry : LogEntry). same_key entry.key key) (k + 1) log ≡ None) → cond b (Some k) (position_from (λ (entry : LogEntry). same_key entry.key key) (k + 1) log) ≡ None
    by true none inner = absurd (omega arith)
    by false none inner = inner (let rest : times key log ≡ 0 = omega arith in rest)

from-at : (k : ℕ) (log : List LogEntry) (key : Key) (i : ℕ) (entry : LogEntry) → slice_get log i ≡ Some entry → same_key entry.key key ≡ true → times key log ≤ 1
    → position_from (λ entry. same_key entry.key key) k log ≡ Some (k + i)
from-at k [] key i entry at same once = absurd (let clash : ⊥ = cc in clash)
from-at k (first ∷ log) key zero entry at same once =
    let is : first ≡ entry = cc in
    ap (λ (e : LogEntry). cond (same_key e.key key) (Some k) (position_from (λ (x : LogEntry). same_key x.key key) (k + 1) log)) is
    ∙ ap (λ b. cond b (Some k) (position_from (λ (x : LogEntry). same_key x.key key) (k + 1) log)) same ∙ ap (λ (n : ℕ). Some n) (let there : k ≡ k + 0 = omega arith in there)
from-at k (first ∷ log) key (suc i) entry at same once = by (same_key first.key key) once (times-at log i entry key at same) (λ rest. from-at (k + 1) log key i entry at same rest)
  where
    by : (b : Bool) → cond b 1 0 + times key log ≤ 1 → 1 ≤ times key log → (times key log ≤ 1 → position_from (λ (x : LogEntry). same_key x.key key) (k + 1) log ≡ Some (k + 1 + i)) → cond b (Some k) (position_from (λ (x : LogEntry). same_key x.key key) (k + 1) log) ≡ Some (k + suc i)
    by true once some inner = absurd (omega arith)
    by false once some inner =
        inner (let rest : times key log ≤ 1 = omega arith in rest)
        ∙ ap (λ (n : ℕ). Some n) (let there : k + 1 + i ≡ k + suc i = omega arith in there)

pub place_by-is : (index : BTreeMap Key ℕ) (log : List LogEntry) (key : Key) → HasPlaces index log → place_by index log key ≡ position (λ entry. same_key entry.key key) log
place_by-is index log key has = by (get key_cmp index key) refl ∙ sym (position_from-zero (λ (entry : LogEntry). same_key entry.key key) log)
  where
    p : List LogEntry → Option ℕ
    p = position_from (λ (entry : LogEntry). same_key entry.key key) 0

    -- no entry has the key where the one at the place that the index has does not
    lacking : (o : Option ℕ) → get key_cmp index key ≡ o → ((i : ℕ) (entry : LogEntry) → o ≡ Some i → slice_get log i ≡ Some entry → same_key entry.key key ≡ false) → times key log ≡ 0
    lacking o is none = times-zero log key (λ i entry at. false_from_ne_true (same_key entry.key key) (λ same.
        let there : get key_cmp index key ≡ Some i = ap (get key_cmp index) (sym (same_key-is entry.key key same)) ∙ has.at i entry at in
        false≢true (sym (none i entry (sym is ∙ there) at) ∙ same)))

    check : (place : ℕ) (o : Option LogEntry) → get key_cmp index key ≡ Some place → slice_get log place ≡ o → option_and_then (if_there key place) o ≡ position_from (λ entry. same_key entry.key key) 0 log
    check place None is at =
        sym (from-none 0 log key (lacking (Some place) is (λ i entry one there. absurd (let same : place ≡ i = cc in let clash : None ≡ Some entry = sym at ∙ ap (slice_get log) same ∙ there in let never : ⊥ = cc in never))))
    check place (Some entry) is at = test (same_key entry.key key) refl
      where
        test : (b : Bool) → same_key entry.key key ≡ b → cond b (Some place) None ≡ position_from (λ e. same_key e.key key) 0 log
        test true same =
            ap (λ (n : ℕ). Some n) (let there : place ≡ 0 + place = omega arith in there)
            ∙ sym (from-at 0 log key place entry at same ((none_twice index log has).once key))
        test false same =
            sym (from-none 0 log key (lacking (Some place) is (λ i other one there.
            let at_one : place ≡ i = cc in
            let both : Some entry ≡ Some other = sym at ∙ ap (slice_get log) at_one ∙ there in
            let as_one : entry ≡ other = cc in
            ap (λ (e : LogEntry). same_key e.key key) (sym as_one) ∙ same)))

    by : (o : Option ℕ) → get key_cmp index key ≡ o → option_and_then (λ place. option_and_then (if_there key place) (slice_get log place)) o ≡ position_from (λ entry. same_key entry.key key) 0 log
    by None is = sym (from-none 0 log key (lacking None is (λ i entry one at. absurd (let never : ⊥ = cc in never))))
    by (Some place) is = check place (slice_get log place) is refl

lacks_from : (k : ℕ) (log : List LogEntry) (key : Key) → is_none (position_from (λ entry. same_key entry.key key) k log) ≡ eqb (times key log) 0
lacks_from k [] key = refl
lacks_from k (first ∷ log) key = by (same_key first.key key) (lacks_from (k + 1) log key)
  where
    by : (b : Bool) → is_none (position_from (λ (entry : LogEntry). same_key entry.key key) (k + 1) log) ≡ eqb (times key log) 0 → is_none (cond b (Some k) (position_from (λ (entry : LogEntry). same_key entry.key key) (k + 1) log)) ≡ eqb (cond b 1 0 + times key log) 0
    by true inner = sym (ne_eqb (1 + times key log) 0 (λ none. omega arith))
    by false inner = inner ∙ ap (λ n. eqb n 0) (let same : times key log ≡ 0 + times key log = omega arith in same)

pub lacks-is : (log : List LogEntry) (key : Key) → is_none (position (λ entry. same_key entry.key key) log) ≡ eqb (times key log) 0
lacks-is log key = ap is_none (position_from-zero (λ (entry : LogEntry). same_key entry.key key) log) ∙ lacks_from 0 log key

pub acked-none : (key : Key) (es : List LogEntry) (ms : List Bool) → times key es ≡ 0 → is_acked (zip es ms) key ≡ false
acked-none key [] ms none = refl
acked-none key (e ∷ es) [] none = refl
acked-none key (e ∷ es) (m ∷ ms) none = by (same_key e.key key) none (λ rest. acked-none key es ms rest)
  where
    by : (b : Bool) → cond b 1 0 + times key es ≡ 0 → (times key es ≡ 0 → is_acked (zip es ms) key ≡ false) → ((b && m) || is_acked (zip es ms) key) ≡ false
    by true none inner = absurd (omega arith)
    by false none inner = inner (let rest : times key es ≡ 0 = omega arith in rest)

pub acked-at : (key : Key) (es : List LogEntry) (ms : List Bool) (i : ℕ) (d : LogEntry) (b : Bool) → length ms ≡ length es → i < length es → same_key (get_or es i d).key key ≡ true → times key es ≤ 1
    → is_acked (zip es ms) key ≡ get_or ms i b
acked-at key [] ms i d b count within same once = absurd (omega arith)
acked-at key (e ∷ es) [] i d b count within same once = absurd (omega arith)
acked-at key (e ∷ es) (m ∷ ms) zero d b count within same once =
    let one : ◌≡◌ {A = ℕ} (cond (same_key e.key key) 1 0) 1 = ap (λ x. cond x 1 0) same in
    let none : times key es ≡ 0 = omega (arith, one, once) in
    ap (λ x. (x && m) || is_acked (zip es ms) key) same ∙ ap (λ x. m || x) (acked-none key es ms none) ∙ or_false m
  where
    or_false : (x : Bool) → (x || false) ≡ x
    or_false true = refl
    or_false false = refl
acked-at key (e ∷ es) (m ∷ ms) (suc i) d b count within same once =
    by (same_key e.key key) once
    (λ rest. acked-at key es ms i d b (let fewer : length ms ≡ length es = omega arith in fewer) (let lower : i < length es = omega arith in lower) same rest)
  where
    some : (l : List LogEntry) (j : ℕ) → j < length l → same_key (get_or l j d).key key ≡ true → 1 ≤ times key l
    some [] j below at = absurd (omega arith)
    some (x ∷ l) zero below at = let one : ◌≡◌ {A = ℕ} (cond (same_key x.key key) 1 0) 1 = ap (λ y. cond y 1 0) at in omega (arith, one)
    some (x ∷ l) (suc j) below at = let rest = some l j (let lower : j < length l = omega arith in lower) at in omega (arith, rest)

    by : (x : Bool) → cond x 1 0 + times key es ≤ 1 → (times key es ≤ 1 → is_acked (zip es ms) key ≡ get_or ms i b) → ((x && m) || is_acked (zip es ms) key) ≡ get_or ms i b
    by true once inner = let there = some es i (let lower : i < length es = omega arith in lower) same in absurd (omega (arith, there))
    by false once inner = inner (let rest : times key es ≤ 1 = omega arith in rest)
