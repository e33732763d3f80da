-- The logs with marks behind a member's calls, in the words of logs alone.
use Rattle.std.proofs.Common.{◌≡◌, ◌≤◌, ◌+◌, ℕ, Bool, true, false, List, [], ◌∷◌, ◌++◌, map, cond, eqb, refl, sym, ap, ◌∙◌, inl, inr, subst, arith}
use Rattle.std.proofs.lemmas.Bool.{and_parts, and_right, eq-eqb, false≢true, ne_eqb, or_cases, or_left, true≢false}
use Rattle.std.specs.Prelude.{◌&&◌, ◌||◌, filter}
use Rattle.member_core.specs.Keys.{same_key}
use Rattle.member_core.specs.Logs.{times}
use Rattle.member_core.specs.Members.{Kept, entries, gained_from, is_acked, known_to, marked}
use Rattle.member_core.specs.declared.key.Key.{Key}
use Rattle.member_core.specs.declared.log.LogEntry.{LogEntry}
use Rattle.member_core.proofs.Bits.{same_bool}
use Rattle.member_core.proofs.Counts.{same_key-is, same_key-self, times-append, times-filter}

-- ---- entries

pub entries-append : (some more : List Kept) → entries (some ++ more) ≡ entries some ++ entries more
entries-append [] more = refl
entries-append (kept ∷ some) more = ap (λ l. kept.0 ∷ l) (entries-append some more)

pub entries-marked : (key : Key) (log : List Kept) → entries (marked key log) ≡ entries log
entries-marked key [] = refl
entries-marked key (kept ∷ log) =
    elim (same_key kept.0.key key) as (λ b. entries (cond b ((kept.0, true) ∷ log) (kept ∷ marked key log)) ≡ kept.0 ∷ entries log) [
      | true ↦ refl
      | false ↦ ap (λ l. kept.0 ∷ l) (entries-marked key log)
    ]

pub entries-known : (last : List Kept) (own : List LogEntry) → entries (map (known_to last) own) ≡ own
entries-known last [] = refl
entries-known last (entry ∷ own) = ap (λ l. entry ∷ l) (entries-known last own)

-- ---- marks

added_bits : (l s a : Bool) → (a || ((s && l) || false)) ≡ ((l && s) || a)
added_bits true true true = refl
added_bits true true false = refl
added_bits true false true = refl
added_bits true false false = refl
added_bits false true true = refl
added_bits false true false = refl
added_bits false false true = refl
added_bits false false false = refl

pub is_acked-append : (some more : List Kept) (key : Key) → is_acked (some ++ more) key ≡ (is_acked some key || is_acked more key)
is_acked-append [] more key = refl
is_acked-append (kept ∷ some) more key =
    elim (same_key kept.0.key key && kept.1) as (λ b. (b || is_acked (some ++ more) key) ≡ ((b || is_acked some key) || is_acked more key)) [ true ↦ refl | false ↦ is_acked-append some more key ]

pub is_acked-added : (lead : Bool) (entry : LogEntry) (log : List Kept) (key : Key) → is_acked (log ++ (entry, lead) ∷ []) key ≡ ((lead && same_key entry.key key) || is_acked log key)
is_acked-added lead entry log key = is_acked-append log ((entry, lead) ∷ []) key ∙ added_bits lead (same_key entry.key key) (is_acked log key)

marked_here : (s c a : Bool) → ((s && true) || a) ≡ (s || ((s && c) || a))
marked_here true c a = refl
marked_here false c a = refl

marked_later : (x s a : Bool) → (x || (s || a)) ≡ (s || (x || a))
marked_later true true a = refl
marked_later true false a = refl
marked_later false true a = refl
marked_later false false a = refl

is_acked-marked_at : (k : Key) (kept : Kept) (log : List Kept) (key : Key) (b : Bool) → same_key kept.0.key k ≡ b → 1 ≤ cond b 1 0 + times k (entries log)
    → (1 ≤ times k (entries log) → is_acked (marked k log) key ≡ (same_key k key || is_acked log key))
    → is_acked (cond b ((kept.0, true) ∷ log) (kept ∷ marked k log)) key ≡ (same_key k key || ((same_key kept.0.key key && kept.1) || is_acked log key))
is_acked-marked_at k kept log key true e has inner =
    marked_here (same_key kept.0.key key) kept.1 (is_acked log key)
    ∙ ap (λ x. same_key x key || ((same_key kept.0.key key && kept.1) || is_acked log key)) (same_key-is kept.0.key k e)
is_acked-marked_at k kept log key false e has inner =
    let there : 1 ≤ times k (entries log) = omega arith in
    ap (λ a. (same_key kept.0.key key && kept.1) || a) (inner there) ∙ marked_later (same_key kept.0.key key && kept.1) (same_key k key) (is_acked log key)

pub is_acked-marked : (k : Key) (log : List Kept) (key : Key) → 1 ≤ times k (entries log) → is_acked (marked k log) key ≡ (same_key k key || is_acked log key)
is_acked-marked k [] key has = absurd (omega arith)
is_acked-marked k (kept ∷ log) key has = is_acked-marked_at k kept log key (same_key kept.0.key k) refl has (λ there. is_acked-marked k log key there)

-- ---- an election

acked_times : (log : List Kept) (key : Key) → is_acked log key ≡ true → 1 ≤ times key (entries log)
acked_times [] key e = absurd (false≢true e)
acked_times (kept ∷ log) key e =
    elim (or_cases (same_key kept.0.key key && kept.1) (is_acked log key) e) [
      | inl here ↦ let one : ◌≡◌ {A = ℕ} (cond (same_key kept.0.key key) 1 0) 1 = ap (λ b. cond b 1 0) (and_parts (same_key kept.0.key key) kept.1 here).0 in omega (arith, one)
      | inr later ↦ omega (arith, acked_times log key later)
    ]

acked_known : (last : List Kept) (own : List LogEntry) (key : Key) → is_acked (map (known_to last) own) key ≡ true → is_acked last key ≡ true
acked_known last [] key e = absurd (false≢true e)
acked_known last (entry ∷ own) key e =
    elim (or_cases (same_key entry.key key && is_acked last entry.key) (is_acked (map (known_to last) own) key) e) [
      | inl here ↦
          let both = and_parts (same_key entry.key key) (is_acked last entry.key) here in
          subst (λ k. is_acked last k ≡ true) (same_key-is entry.key key both.0) both.1
      | inr later ↦ acked_known last own key later
    ]

known_acked_at : (last : List Kept) (entry : LogEntry) (own : List LogEntry) (key : Key) (b : Bool) → same_key entry.key key ≡ b → is_acked last key ≡ true → 1 ≤ cond b 1 0 + times key own
    → (1 ≤ times key own → is_acked (map (known_to last) own) key ≡ true) → ((b && is_acked last entry.key) || is_acked (map (known_to last) own) key) ≡ true
known_acked_at last entry own key true e acked has inner =
    or_left (is_acked last entry.key) (is_acked (map (known_to last) own) key) (subst (λ k. is_acked last k ≡ true) (sym (same_key-is entry.key key e)) acked)
known_acked_at last entry own key false e acked has inner = let there : 1 ≤ times key own = omega arith in inner there

known_acked : (last : List Kept) (own : List LogEntry) (key : Key) → is_acked last key ≡ true → 1 ≤ times key own → is_acked (map (known_to last) own) key ≡ true
known_acked last [] key acked has = absurd (omega arith)
known_acked last (entry ∷ own) key acked has = known_acked_at last entry own key (same_key entry.key key) refl acked has (λ there. known_acked last own key acked there)

gained_has_at : (last : List Kept) (own : List LogEntry) (key : Key) (b : Bool) → eqb (times key own) 0 ≡ b → is_acked last key ≡ true → 1 ≤ times key own + cond (is_acked last key && b) (times key (entries last)) 0
gained_has_at last own key true e acked =
    let gain : cond (is_acked last key && true) (times key (entries last)) 0 ≡ times key (entries last) = ap (λ b. cond (b && true) (times key (entries last)) 0) acked in
    omega (arith, gain, acked_times last key acked)
gained_has_at last own key false e acked =
    let some : times key own ≡ 0 → ⊥ = λ none. true≢false (sym (eq-eqb (times key own) 0 none) ∙ e) in
    let least : 1 ≤ times key own = omega (arith, some) in
    omega arith

gained_has : (last : List Kept) (own : List LogEntry) (key : Key) → is_acked last key ≡ true → 1 ≤ times key (own ++ gained_from last own)
gained_has last own key acked =
    omega (arith, times-append key own (gained_from last own), times-filter key (λ k. is_acked last k && eqb (times k own) 0) (entries last), gained_has_at last own key (eqb (times key own) 0) refl acked)

-- An elected member knows as acknowledged what the last elected one knew.
pub is_acked-elected : (last : List Kept) (own : List LogEntry) (key : Key) → is_acked (map (known_to last) (own ++ gained_from last own)) key ≡ is_acked last key
is_acked-elected last own key =
    same_bool (is_acked (map (known_to last) (own ++ gained_from last own)) key) (is_acked last key) (acked_known last (own ++ gained_from last own) key)
    (λ acked. known_acked last (own ++ gained_from last own) key acked (gained_has last own key acked))

-- ---- a log lacks none of its own keys

none_lacking : (q : Key → Bool) (all front back : List LogEntry) → all ≡ front ++ back → filter (λ entry. q entry.key && eqb (times entry.key all) 0) back ≡ []
none_lacking q all front [] is = refl
none_lacking q all front (entry ∷ back) is =
    let one : ◌≡◌ {A = ℕ} (cond (same_key entry.key entry.key) 1 0) 1 = ap (λ b. cond b 1 0) (same_key-self entry.key) in
    let some : 1 ≤ times entry.key all = omega (arith, ap (times entry.key) is, times-append entry.key front (entry ∷ back), one) in
    let there : eqb (times entry.key all) 0 ≡ false = ne_eqb (times entry.key all) 0 (λ none. omega arith) in
    let fails : (q entry.key && eqb (times entry.key all) 0) ≡ false = and_right (q entry.key) (eqb (times entry.key all) 0) there in
    let rest : filter (λ (x : LogEntry). q x.key && eqb (times x.key all) 0) back ≡ [] = none_lacking q all (front ++ entry ∷ []) back (is ∙ sym (append_one front entry back)) in
    ap (λ b. cond b (entry ∷ filter (λ (x : LogEntry). q x.key && eqb (times x.key all) 0) back) (filter (λ (x : LogEntry). q x.key && eqb (times x.key all) 0) back)) fails ∙ rest
  where
    append_one : (front : List LogEntry) (entry : LogEntry) (back : List LogEntry) → (front ++ entry ∷ []) ++ back ≡ front ++ entry ∷ back
    append_one [] entry back = refl
    append_one (x ∷ front) entry back = ap (λ l. x ∷ l) (append_one front entry back)

pub none_gained : (q : Key → Bool) (log : List LogEntry) → filter (λ entry. q entry.key && eqb (times entry.key log) 0) log ≡ []
none_gained q log = none_lacking q log [] log refl
