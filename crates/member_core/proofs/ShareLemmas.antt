-- A log with its marks: its parts, what it shares with another one, and what an election and a following make of it.
use Rattle.std.proofs.Common.{◌≡◌, ◌≤◌, ◌<◌, ◌+◌, ◌-◌, ℕ, zero, suc, Bool, true, false, List, [], ◌∷◌, ◌++◌, Some, None, length, take, drop, get_or, map, cond, eqb, refl, sym, ap, ◌∙◌, subst, arith, append_assoc, length-append, length-drop}
use Rattle.std.proofs.Math.ListN.{set}
use Rattle.std.proofs.lemmas.Bool.{and_right, eqb-true, ne_eqb}
use Rattle.std.proofs.lemmas.List.{length-map, length-set, map-append, set-get_or, take-append-drop, take-append-le, take-map, take-set, take_all}
use Rattle.std.proofs.lemmas.List.Elements.{filter-append}
use Rattle.std.proofs.lemmas.List.Quantifiers.{position-Some}
use Rattle.std.proofs.lemmas.Slice.Zip.{firsts-zip, length-zip, seconds-zip}
use mathlib.Core.Bool.{beq}
use Rattle.std.specs.Prelude.{Err, Ok, OnOk, Result, ◌&&◌, ◌||◌, filter, position, slice_get}
use Rattle.std.specs.List.{zip}
use Rattle.std.specs.Option.{is_none}
use Rattle.member_core.specs.Keys.{same_key}
use Rattle.member_core.specs.Logs.{times}
use Rattle.member_core.specs.Members.{Kept, elected_log, entries, gained_from, is_acked, known_to, marked}
use Rattle.member_core.specs.Places.{HasNoneTwice, marks_of}
use Rattle.member_core.specs.Shares.{IsShared}
use Rattle.member_core.specs.declared.key.Key.{Key}
use Rattle.member_core.specs.declared.log.LogEntry.{LogEntry}
use Rattle.member_core.proofs.Counts.{same_key-is, same_key-self, times-append, times-filter}
use Rattle.member_core.proofs.IndexLemmas.{acked-at, acked-none, lacks-is, times-at}
use Rattle.member_core.proofs.MarkLemmas.{entries-append, is_acked-append}
use Rattle.member_core.proofs.PlaceLemmas.{marked-none, marked-some, some_entry, zip-map}

-- ---- the parts of a log

pub entries-of : (es : List LogEntry) (ms : List Bool) (log : List Kept) → zip es ms ≡ log → length ms ≡ length es → entries log ≡ es
entries-of es ms log is count = ap entries (sym is) ∙ firsts-zip es ms count

pub marks-of : (es : List LogEntry) (ms : List Bool) (log : List Kept) → zip es ms ≡ log → length ms ≡ length es → marks_of log ≡ ms
marks-of es ms log is count = ap marks_of (sym is) ∙ seconds-zip es ms count

pub length-of : (es : List LogEntry) (ms : List Bool) (log : List Kept) → zip es ms ≡ log → length ms ≡ length es → length log ≡ length es
length-of es ms log is count = omega (arith, ap (λ (l : List Kept). length l) is, length-zip es ms, count)

pub length-entries : (log : List Kept) → length (entries log) ≡ length log
length-entries [] = refl
length-entries (kept ∷ log) = omega (arith, length-entries log)

pub length-marks : (log : List Kept) → length (marks_of log) ≡ length log
length-marks [] = refl
length-marks (kept ∷ log) = omega (arith, length-marks log)

pub zip-parts : (log : List Kept) → zip (entries log) (marks_of log) ≡ log
zip-parts [] = refl
zip-parts (kept ∷ log) = ap (λ l. kept ∷ l) (zip-parts log)

pub at-zip : (es : List LogEntry) (ms : List Bool) (i : ℕ) (e : LogEntry) (m : Bool) → length ms ≡ length es → i < length es → Some (get_or es i e, get_or ms i m) ≡ slice_get (zip es ms) i
at-zip [] ms i e m count within = absurd (omega arith)
at-zip (x ∷ es) [] i e m count within = absurd (omega arith)
at-zip (x ∷ es) (n ∷ ms) zero e m count within = refl
at-zip (x ∷ es) (n ∷ ms) (suc i) e m count within = at-zip es ms i e m (let rest : length ms ≡ length es = omega arith in rest) (let lower : i < length es = omega arith in lower)

take-zip : (n : ℕ) (es : List LogEntry) (ms : List Bool) → take n (zip es ms) ≡ zip (take n es) (take n ms)
take-zip zero es ms = refl
take-zip (suc n) [] ms = refl
take-zip (suc n) (e ∷ es) [] = refl
take-zip (suc n) (e ∷ es) (m ∷ ms) = ap (λ l. (e, m) ∷ l) (take-zip n es ms)

-- what stands behind a place of a slice
pub tail-of : {A : Type 0} (l log : List A) (n : ℕ) → l ≡ log → take (length l - n) (drop n l) ≡ drop n log
tail-of l log n is = take_all (length l - n) (drop n l) (omega (arith, length-drop n l)) ∙ ap (drop n) is

-- what follows where a call succeeds
pub on_ok : {T E P Q : Type 0} (r : Result T E) → (P → Q) → OnOk r P → OnOk r Q
on_ok (Ok x) f p = f p
on_ok (Err e) f p = tt

pub same_mark : (a b : Bool) → beq a b ≡ true → a ≡ b
same_mark true true e = refl
same_mark true false e = absurd (let clash : ⊥ = cc in clash)
same_mark false true e = absurd (let clash : ⊥ = cc in clash)
same_mark false false e = refl

-- ---- a key that is looked for

pub place-within : (log : List Kept) (key : Key) (place : ℕ) → Some place ≡ position (λ entry. same_key entry.key key) (entries log) → place < length log
place-within log key place found = omega (arith, (position-Some (λ (entry : LogEntry). same_key entry.key key) (entries log) place some_entry (sym found)).0, length-entries log)

pub acked-place : (log : List Kept) (key : Key) (place : ℕ) (b : Bool) → HasNoneTwice (entries log) → Some place ≡ position (λ entry. same_key entry.key key) (entries log) → get_or (marks_of log) place b ≡ is_acked log key
acked-place log key place b once found =
    let there = position-Some (λ (entry : LogEntry). same_key entry.key key) (entries log) place some_entry (sym found) in
    let count : length (marks_of log) ≡ length (entries log) = length-marks log ∙ sym (length-entries log) in
    sym (acked-at key (entries log) (marks_of log) place some_entry b count there.0 there.1 (once.once key)) ∙ ap (λ l. is_acked l key) (zip-parts log)

pub acked-nowhere : (log : List Kept) (key : Key) → None ≡ position (λ entry. same_key entry.key key) (entries log) → false ≡ is_acked log key
acked-nowhere log key nowhere =
    let none : times key (entries log) ≡ 0 = eqb-true (times key (entries log)) 0 (sym (lacks-is (entries log) key) ∙ ap is_none (sym nowhere)) in
    sym (acked-none key (entries log) (marks_of log) none) ∙ ap (λ l. is_acked l key) (zip-parts log)

-- ---- what two logs share

pub shared-self : (n : ℕ) (log : List Kept) → n ≤ length log → IsShared n log log
shared-self n log within = record { same = refl; within = within; within_other = within }

pub shared-all : (n : ℕ) (log other : List Kept) → n ≡ length log → other ≡ log → IsShared n log other
shared-all n log other all is = subst (λ l. IsShared n log l) (sym is) (shared-self n log (omega (arith, all)))

pub shared-added : (n : ℕ) (log other more : List Kept) → n ≡ length log → other ≡ log ++ more → IsShared n log other
shared-added n log other more all is =
    let within : n ≤ length log = omega (arith, all) in
    subst (λ l. IsShared n log l) (sym is)
    (record { same = sym (take-append-le n log more within); within = within; within_other = omega (arith, within, length-append log more) })

take-next : (n : ℕ) (log : List Kept) (kept : Kept) → slice_get log n ≡ Some kept → (take (n + 1) log ≡ take n log ++ kept ∷ []) × (n + 1 ≤ length log)
take-next n [] kept at = absurd (let clash : ⊥ = cc in clash)
take-next zero (first ∷ log) kept at = let is : first ≡ kept = cc in (ap (λ k. k ∷ []) is, omega arith)
take-next (suc n) (first ∷ log) kept at =
    let rest = take-next n log kept at in
    let next : suc n + 1 ≡ suc (n + 1) = omega arith in
    (ap (λ k. take k (first ∷ log)) next ∙ ap (λ l. first ∷ l) rest.0, omega (arith, rest.1))

pub shared-more : (n : ℕ) (log other : List Kept) (kept : Kept) → IsShared n log other → slice_get log n ≡ Some kept → slice_get other n ≡ Some kept → IsShared (n + 1) log other
shared-more n log other kept shared at at_other =
    let own = take-next n log kept at in
    let one = take-next n other kept at_other in
    record { same = own.0 ∙ ap (λ l. l ++ kept ∷ []) shared.same ∙ sym one.0; within = own.1; within_other = one.1 }

pub shared-entries : (n : ℕ) (log other : List Kept) → IsShared n log other → take n (entries log) ≡ take n (entries other)
shared-entries n log other shared = take-map (λ (k : Kept). k.0) n log ∙ ap entries shared.same ∙ sym (take-map (λ (k : Kept). k.0) n other)

pub shared-marks : (n : ℕ) (log other : List Kept) → IsShared n log other → take n (marks_of log) ≡ take n (marks_of other)
shared-marks n log other shared = take-map (λ (k : Kept). k.1) n log ∙ ap marks_of shared.same ∙ sym (take-map (λ (k : Kept). k.1) n other)

-- ---- a mark

pub mark-shared : (log other : List Kept) (place : ℕ) → place < length log → other ≡ zip (entries log) (set (marks_of log) place true) → IsShared place log other
mark-shared log other place within is =
    let es = entries log in
    let ms = marks_of log in
    let longer : place ≤ length (zip es (set ms place true)) =
    omega (arith, length-zip es (set ms place true), length-set ms place true, length-entries log, length-marks log, within) in
    subst (λ l. IsShared place log l) (sym is)
    (record {
      same = ap (take place) (sym (zip-parts log)) ∙ take-zip place es ms ∙ ap (zip (take place es)) (sym (take-set ms place true)) ∙ sym (take-zip place es (set ms place true));
      within = omega (arith, within);
      within_other = longer;
    })

pub mark-set : (key : Key) (log other : List Kept) (place : ℕ) → Some place ≡ position (λ entry. same_key entry.key key) (entries log) → other ≡ zip (entries log) (set (marks_of log) place true) → other ≡ marked key log
mark-set key log other place found is =
    let count : length (marks_of log) ≡ length (entries log) = length-marks log ∙ sym (length-entries log) in
    is ∙ marked-some key (entries log) (marks_of log) place some_entry count (sym found) ∙ ap (marked key) (zip-parts log)

pub mark-same : (key : Key) (log : List Kept) (place : ℕ) (b : Bool) → Some place ≡ position (λ entry. same_key entry.key key) (entries log) → get_or (marks_of log) place b ≡ true → log ≡ marked key log
mark-same key log place b found there =
    let same : set (marks_of log) place true ≡ marks_of log = ap (set (marks_of log) place) (sym there) ∙ set-get_or (marks_of log) place b in
    mark-set key log log place found (sym (ap (zip (entries log)) same ∙ zip-parts log))

pub mark-none : (key : Key) (log : List Kept) → None ≡ position (λ entry. same_key entry.key key) (entries log) → log ≡ marked key log
mark-none key log nowhere = sym (zip-parts log) ∙ sym (marked-none key (entries log) (marks_of log) (sym nowhere)) ∙ ap (marked key) (zip-parts log)

-- ---- an election

filter-none : (p : LogEntry → Bool) (log : List LogEntry) → ((i : ℕ) (entry : LogEntry) → slice_get log i ≡ Some entry → p entry ≡ false) → filter p log ≡ []
filter-none p [] none = refl
filter-none p (entry ∷ log) none =
    ap (λ b. cond b (entry ∷ filter p log) (filter p log)) (none zero entry refl) ∙ filter-none p log (λ i e at. none (suc i) e at)

-- nothing of what is shared at the front is gained
pub gained-behind : (n : ℕ) (last : List Kept) (own : List LogEntry) → take n own ≡ take n (entries last)
    → filter (λ entry. is_acked last entry.key && eqb (times entry.key own) 0) (drop n (entries last)) ≡ gained_from last own
gained-behind n last own same =
    let p : LogEntry → Bool = λ entry. is_acked last entry.key && eqb (times entry.key own) 0 in
    let front : filter p (take n (entries last)) ≡ [] =
    ap (filter p) (sym same)
    ∙ filter-none p (take n own) (λ i entry at.
    let some = times-at (take n own) i entry entry.key at (same_key-self entry.key) in
    let there : 1 ≤ times entry.key own = omega (arith, some, times-append entry.key (take n own) (drop n own), ap (times entry.key) (take-append-drop n own)) in
    and_right (is_acked last entry.key) (eqb (times entry.key own) 0) (ne_eqb (times entry.key own) 0 (λ none. omega (arith, there, none)))) in
    ap (λ l. l ++ filter p (drop n (entries last))) (sym front)
    ∙ sym (filter-append p (take n (entries last)) (drop n (entries last)))
    ∙ ap (filter p) (take-append-drop n (entries last))

-- no key stands twice behind it
pub gained-once : (last : List Kept) (own : List LogEntry) → HasNoneTwice own → HasNoneTwice (entries last) → HasNoneTwice (own ++ gained_from last own)
gained-once last own once once_last = record {
  once = λ key.
      by key (is_acked last key) (eqb (times key own) 0) refl
      (let split = times-append key own (gained_from last own) in let part = times-filter key (λ k. is_acked last k && eqb (times k own) 0) (entries last) in split ∙ ap (λ n. times key own + n) part);
}
  where
    below : (x : Bool) (n : ℕ) → cond x n 0 ≤ n
    below true n = omega arith
    below false n = omega arith

    by : (key : Key) (a b : Bool) → eqb (times key own) 0 ≡ b → times key (own ++ gained_from last own) ≡ times key own + cond (is_acked last key && eqb (times key own) 0) (times key (entries last)) 0
        → times key (own ++ gained_from last own) ≤ 1
    by key a true none sum =
        let zeroed : times key own ≡ 0 = eqb-true (times key own) 0 none in
        omega (arith, zeroed, sum, below (is_acked last key && eqb (times key own) 0) (times key (entries last)), once_last.once key)
    by key a false some sum =
        let nothing : ◌≡◌ {A = ℕ} (cond (is_acked last key && eqb (times key own) 0) (times key (entries last)) 0) 0 =
        ap (λ x. cond x (times key (entries last)) 0) (and_right (is_acked last key) (eqb (times key own) 0) some) in
        omega (arith, nothing, sum, once.once key)

acked-lacking : (key : Key) (log : List Kept) → times key (entries log) ≡ 0 → is_acked log key ≡ false
acked-lacking key [] none = refl
acked-lacking key (kept ∷ log) none = by (same_key kept.0.key key) none (λ rest. acked-lacking key log rest)
  where
    by : (b : Bool) → cond b 1 0 + times key (entries log) ≡ 0 → (times key (entries log) ≡ 0 → is_acked log key ≡ false) → ((b && kept.1) || is_acked log key) ≡ false
    by true none inner = absurd (omega arith)
    by false none inner = inner (let rest : times key (entries log) ≡ 0 = omega arith in rest)

one_mark : (same m a : Bool) → same ≡ true → a ≡ false → ((same && m) || a) ≡ m
one_mark true true a is none = refl
one_mark true false a is none = none
one_mark false m a is none = absurd (let clash : ⊥ = cc in clash)

-- what a log knows of its own entries is their marks
known-own : (last front rest : List Kept) → HasNoneTwice (entries last) → front ++ rest ≡ last → map (λ (entry : LogEntry). is_acked last entry.key) (entries rest) ≡ marks_of rest
known-own last front [] once is = refl
known-own last front (kept ∷ rest) once is =
    let key = kept.0.key in
    let one : ◌≡◌ {A = ℕ} (cond (same_key key key) 1 0) 1 = ap (λ b. cond b 1 0) (same_key-self key) in
    let all : times key (entries front) + times key (entries (kept ∷ rest)) ≤ 1 =
    omega (arith, once.once key, times-append key (entries front) (entries (kept ∷ rest)), ap (times key) (sym (entries-append front (kept ∷ rest))), ap (λ (l : List Kept). times key (entries l)) is) in
    let before : times key (entries front) ≡ 0 = omega (arith, all, one) in
    let after : times key (entries rest) ≡ 0 = omega (arith, all, one) in
    let here : is_acked last key ≡ kept.1 =
    ap (λ l. is_acked l key) (sym is) ∙ is_acked-append front (kept ∷ rest) key
    ∙ ap (λ a. a || ((same_key key key && kept.1) || is_acked rest key)) (acked-lacking key front before)
    ∙ one_mark (same_key key key) kept.1 (is_acked rest key) (same_key-self key) (acked-lacking key rest after) in
    let behind = known-own last (front ++ kept ∷ []) rest once (append_assoc front (kept ∷ []) rest ∙ is) in
    (λ i. here i ∷ behind i)

pub known-front : (n : ℕ) (log last : List Kept) → HasNoneTwice (entries last) → IsShared n log last → take n (marks_of log) ≡ map (λ (entry : LogEntry). is_acked last entry.key) (take n (entries log))
known-front n log last once shared =
    let f : LogEntry → Bool = λ entry. is_acked last entry.key in
    shared-marks n log last shared
    ∙ ap (take n) (sym (known-own last [] last once refl))
    ∙ take-map f n (entries last)
    ∙ ap (map f) (sym (shared-entries n log last shared))

-- the log behind an election, made of what is new in it
pub gain-log : (n : ℕ) (log last : List Kept) (gains : List LogEntry) (marks : List Bool) → HasNoneTwice (entries last) → IsShared n log last → gains ≡ gained_from last (entries log)
    → marks ≡ map (λ (entry : LogEntry). is_acked last entry.key) (drop n (entries log)) ++ map (λ (entry : LogEntry). is_acked last entry.key) gains
    → zip (entries log ++ gains) (take n (marks_of log) ++ marks) ≡ elected_log (Some last) log
gain-log n log last gains marks once shared gained are =
    let f : LogEntry → Bool = λ entry. is_acked last entry.key in
    let own = entries log in
    let all : take n (marks_of log) ++ marks ≡ map f (own ++ gains) =
    (λ i. known-front n log last once shared i ++ are i)
    ∙ sym (append_assoc (map f (take n own)) (map f (drop n own)) (map f gains))
    ∙ ap (λ l. l ++ map f gains) (sym (map-append f (take n own) (drop n own)) ∙ ap (map f) (take-append-drop n own))
    ∙ sym (map-append f own gains) in
    ap (zip (own ++ gains)) all ∙ zip-map f (own ++ gains) ∙ ap (λ g. map (known_to last) (own ++ g)) gained

-- what was shared stays shared behind an election
pub elected-shared : (n : ℕ) (log last : List Kept) → HasNoneTwice (entries last) → IsShared n log last → IsShared n (elected_log (Some last) log) last
elected-shared n log last once shared =
    let f : LogEntry → Bool = λ entry. is_acked last entry.key in
    let own = entries log in
    let gained = gained_from last own in
    let few : n ≤ length own = omega (arith, shared.within, length-entries log) in
    let front : take n (elected_log (Some last) log) ≡ take n log =
    take-map (known_to last) n (own ++ gained)
    ∙ ap (map (known_to last)) (take-append-le n own gained few)
    ∙ sym (zip-map f (take n own))
    ∙ ap (zip (take n own)) (sym (known-front n log last once shared))
    ∙ sym (take-zip n own (marks_of log))
    ∙ ap (take n) (zip-parts log) in
    record {
      same = front ∙ shared.same;
      within = omega (arith, few, length-map (own ++ gained) (known_to last), length-append own gained);
      within_other = shared.within_other;
    }

-- ---- a following

pub copy-entries : (n : ℕ) (log other : List Kept) → IsShared n log other → take n (entries log) ++ drop n (entries other) ≡ entries other
copy-entries n log other shared = ap (λ l. l ++ drop n (entries other)) (shared-entries n log other shared) ∙ take-append-drop n (entries other)

pub copy-log : (n : ℕ) (log other : List Kept) → IsShared n log other → zip (take n (entries log) ++ drop n (entries other)) (take n (marks_of log) ++ drop n (marks_of other)) ≡ other
copy-log n log other shared =
    (λ i. zip (copy-entries n log other shared i) (marks i)) ∙ zip-parts other
  where
    marks : take n (marks_of log) ++ drop n (marks_of other) ≡ marks_of other
    marks = ap (λ l. l ++ drop n (marks_of other)) (shared-marks n log other shared) ∙ take-append-drop n (marks_of other)

-- ---- one entry more

pub added-once : (own : List LogEntry) (entry : LogEntry) → HasNoneTwice own → times entry.key own ≡ 0 → HasNoneTwice (own ++ entry ∷ [])
added-once own entry once lacks = record { once = λ key. by key (same_key entry.key key) refl (times-append key own (entry ∷ [])) }
  where
    by : (key : Key) (b : Bool) → same_key entry.key key ≡ b → times key (own ++ entry ∷ []) ≡ times key own + (cond b 1 0 + 0) → times key (own ++ entry ∷ []) ≤ 1
    by key true same sum = let none : times key own ≡ 0 = ap (λ k. times k own) (sym (same_key-is entry.key key same)) ∙ lacks in omega (arith, none, sum)
    by key false same sum = omega (arith, sum, once.once key)

pub zip-push : (log : List Kept) (entry : LogEntry) (acked : Bool) → zip (entries log ++ entry ∷ []) (marks_of log ++ acked ∷ []) ≡ log ++ (entry, acked) ∷ []
zip-push [] entry acked = refl
zip-push (kept ∷ log) entry acked = ap (λ l. kept ∷ l) (zip-push log entry acked)
