-- A log beside its marks, by places.
use Rattle.std.proofs.Common.{◌≡◌, ◌<◌, ◌+◌, ℕ, zero, suc, Bool, true, false, not, List, [], ◌∷◌, ◌++◌, Some, None, length, drop, get_or, map, cond, eqb, refl, sym, ap, ◌∙◌, add-one, arith}
use Rattle.std.proofs.Math.ListN.{set}
use Rattle.std.proofs.lemmas.Bool.{ne_eqb}
use Rattle.std.proofs.lemmas.Iterator.Adapters.{position_from-zero}
use Rattle.std.proofs.lemmas.List.Quantifiers.{position-Some}
use Rattle.std.proofs.lemmas.Slice.Zip.{firsts-zip}
use Rattle.std.specs.Prelude.{◌&&◌, ◌||◌, pos, position}
use Rattle.std.specs.List.{list_any, position_from, zip}
use Rattle.member_core.specs.Keys.{same_key}
use Rattle.member_core.specs.Logs.{times}
use Rattle.member_core.specs.Members.{Kept, MemberState, elected_log, entries, gained_from, is_acked, known_to, marked}
use Rattle.member_core.specs.declared.key.Key.{Key}
use Rattle.member_core.specs.declared.key.Key.TheVariants.{Numbered}
use Rattle.member_core.specs.declared.log.LogEntry.{LogEntry}

pub zip-push : (es : List LogEntry) (ms : List Bool) (e : LogEntry) (m : Bool) → length ms ≡ length es → zip (es ++ e ∷ []) (ms ++ m ∷ []) ≡ zip es ms ++ (e, m) ∷ []
zip-push [] [] e m same = refl
zip-push [] (n ∷ ms) e m same = absurd (omega arith)
zip-push (x ∷ es) [] e m same = absurd (omega arith)
zip-push (x ∷ es) (n ∷ ms) e m same = let rest : length ms ≡ length es = omega arith in ap (λ l. (x, n) ∷ l) (zip-push es ms e m rest)

-- No entry has the key where none is found.
pub times-none : (key : Key) (log : List LogEntry) → eqb (times key log) 0 ≡ not (list_any (λ entry. same_key entry.key key) log)
times-none key [] = refl
times-none key (entry ∷ log) =
    elim (same_key entry.key key) as (λ b. eqb (cond b 1 0 + times key log) 0 ≡ not (b || list_any (λ (x : LogEntry). same_key x.key key) log)) [
      | true ↦ ne_eqb (1 + times key log) 0 (λ none. omega arith)
      | false ↦ let same : 0 + times key log ≡ times key log = omega arith in ap (λ n. eqb n 0) same ∙ times-none key log
    ]

-- ---- a mark that is set

set_at : (key : Key) (d : LogEntry) (es : List LogEntry) (ms : List Bool) (place : ℕ) → length ms ≡ length es → place < length es → same_key (get_or es place d).key key ≡ true
    → ((k : ℕ) → k < place → same_key (get_or es k d).key key ≡ false) → zip es (set ms place true) ≡ marked key (zip es ms)
set_at key d [] ms place same within here others = absurd (omega arith)
set_at key d (e ∷ es) [] place same within here others = absurd (omega arith)
set_at key d (e ∷ es) (m ∷ ms) zero same within here others = sym (ap (λ b. cond b ((e, true) ∷ zip es ms) ((e, m) ∷ marked key (zip es ms))) here)
set_at key d (e ∷ es) (m ∷ ms) (suc place) same within here others =
    let rest : length ms ≡ length es = omega arith in
    let inside : place < length es = omega arith in
    let first : same_key e.key key ≡ false = others zero (omega arith) in
    ap (λ l. (e, m) ∷ l) (set_at key d es ms place rest inside here (λ k below. others (suc k) (omega arith)))
    ∙ sym (ap (λ b. cond b ((e, true) ∷ zip es ms) ((e, m) ∷ marked key (zip es ms))) first)

pub marked-some : (key : Key) (es : List LogEntry) (ms : List Bool) (place : ℕ) (d : LogEntry) → length ms ≡ length es → position (λ entry. same_key entry.key key) es ≡ Some place
    → zip es (set ms place true) ≡ marked key (zip es ms)
marked-some key es ms place d same found =
    let at = position-Some (λ (entry : LogEntry). same_key entry.key key) es place d found in
    set_at key d es ms place same at.0 at.1 at.2

none_at : (key : Key) (e : LogEntry) (m : Bool) (es : List LogEntry) (ms : List Bool) (i : ℕ) (b : Bool) → cond b (Some i) (position_from (λ (entry : LogEntry). same_key entry.key key) (i + 1) es) ≡ None
    → (position_from (λ (entry : LogEntry). same_key entry.key key) (i + 1) es ≡ None → marked key (zip es ms) ≡ zip es ms)
    → cond b ((e, true) ∷ zip es ms) ((e, m) ∷ marked key (zip es ms)) ≡ (e, m) ∷ zip es ms
none_at key e m es ms i true none inner = absurd cc
none_at key e m es ms i false none inner = ap (λ l. (e, m) ∷ l) (inner none)

none_from : (key : Key) (es : List LogEntry) (ms : List Bool) (i : ℕ) → position_from (λ entry. same_key entry.key key) i es ≡ None → marked key (zip es ms) ≡ zip es ms
none_from key [] ms i none = refl
none_from key (e ∷ es) [] i none = refl
none_from key (e ∷ es) (m ∷ ms) i none = none_at key e m es ms i (same_key e.key key) none (λ rest. none_from key es ms (i + 1) rest)

pub marked-none : (key : Key) (es : List LogEntry) (ms : List Bool) → position (λ entry. same_key entry.key key) es ≡ None → marked key (zip es ms) ≡ zip es ms
marked-none key es ms none = none_from key es ms 0 (sym (position_from-zero (λ (entry : LogEntry). same_key entry.key key) es) ∙ none)

-- ---- a mark that is looked for

pub is_acked-drop : (key : Key) (es : List LogEntry) (ms : List Bool) (i : ℕ) (d : LogEntry) (b : Bool) → length ms ≡ length es → i < length es
    → is_acked (zip (drop i es) (drop i ms)) key ≡ ((same_key (get_or es i d).key key && get_or ms i b) || is_acked (zip (drop (suc i) es) (drop (suc i) ms)) key)
is_acked-drop key [] ms i d b same within = absurd (omega arith)
is_acked-drop key (e ∷ es) [] i d b same within = absurd (omega arith)
is_acked-drop key (e ∷ es) (m ∷ ms) zero d b same within = refl
is_acked-drop key (e ∷ es) (m ∷ ms) (suc i) d b same within = let rest : length ms ≡ length es = omega arith in let inside : i < length es = omega arith in is_acked-drop key es ms i d b rest inside

-- Where the entry at a place is not marked for the key, what is behind it says as much.
pub is_acked-skip : (key : Key) (es : List LogEntry) (ms : List Bool) (i : ℕ) (d : LogEntry) (b : Bool) → length ms ≡ length es → i < length es
    → (same_key (get_or es i d).key key && get_or ms i b) ≡ false → is_acked (zip (drop (i + 1) es) (drop (i + 1) ms)) key ≡ is_acked (zip (drop i es) (drop i ms)) key
is_acked-skip key es ms i d b same within fails =
    ap (λ n. is_acked (zip (drop n es) (drop n ms)) key) (add-one i)
    ∙ sym (ap (λ x. x || is_acked (zip (drop (suc i) es) (drop (suc i) ms)) key) fails)
    ∙ sym (is_acked-drop key es ms i d b same within)

-- A member with another log.
abbrev pub state_with : MemberState → List Kept → MemberState
state_with m log = record m { log = log }

-- What the code's goals read past the end of a log.
abbrev pub some_entry : LogEntry
some_entry = record { key = Numbered (record { 0 = [] }) (pos 0); stream = 0; nth = 0 }

-- ---- a log that was gathered, beside what is known of each entry

pub zip-map : (f : LogEntry → Bool) (log : List LogEntry) → zip log (map f log) ≡ map (λ entry. (entry, f entry)) log
zip-map f [] = refl
zip-map f (entry ∷ log) = ap (λ l. (entry, f entry) ∷ l) (zip-map f log)

pub zip-gathered : (last : List Kept) (own log : List LogEntry) (marks new : List Bool) → length marks ≡ length own → log ≡ own ++ gained_from last own
    → new ≡ map (λ entry. is_acked last entry.key) log → zip log new ≡ elected_log (Some last) (zip own marks)
zip-gathered last own log marks new same gathered known =
    let entries_are : own ≡ entries (zip own marks) = sym (firsts-zip own marks same) in
    ap (λ l. zip log l) known
    ∙ zip-map (λ entry. is_acked last entry.key) log
    ∙ ap (λ l. map (known_to last) l) gathered
    ∙ ap (λ es. map (known_to last) (es ++ gained_from last es)) entries_are
