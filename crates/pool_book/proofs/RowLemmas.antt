-- Connections in rows of which some are empty.
use Rattle.std.proofs.Common.{◌≡◌, ℕ, zero, suc, ◌+◌, ◌<◌, ◌≤◌, Bool, true, false, cond, not, eqb, ltb, List, [], ◌∷◌, ◌++◌, length, get_or, Option, Some, None, refl, ap, sym, ◌∙◌, arith, is_some}
use Rattle.std.specs.Prelude.{slice_get, slice_set, unwrap_or}
use Rattle.std.specs.List.{filter, find, position, position_or_len}
use Rattle.std.proofs.lemmas.Bool.{eq-eqb, eqb-true, ltb-false}
use Rattle.std.proofs.lemmas.List.Folds.{find_at}
use Rattle.std.proofs.lemmas.List.Quantifiers.{position-Some}
use Rattle.std.proofs.lemmas.Option.{slice_get-get_or}
use Rattle.pool_book.specs.declared.connections.Held.{Held}
use Rattle.pool_book.specs.Parts.{IsRowOf, is_row_of, live, row_at}
use Rattle.pool_book.specs.Pool.{held_of, without_held}
use Rattle.pool_book.specs.Sound.{times_held}
use Rattle.pool_book.proofs.TimesLemmas.{filter-times_none}

pub live-push : (rows : List (Option Held)) (h : Held) → live (rows ++ Some h ∷ []) ≡ live rows ++ h ∷ []
live-push [] h = refl
live-push (None ∷ rows) h = live-push rows h
live-push (Some g ∷ rows) h = ap (λ hs. g ∷ hs) (live-push rows h)

-- without the empty rows
pub live-some : (rows : List (Option Held)) → live (filter (λ row. is_some row) rows) ≡ live rows
live-some [] = refl
live-some (None ∷ rows) = live-some rows
live-some (Some h ∷ rows) = ap (λ hs. h ∷ hs) (live-some rows)

pub length-some : (rows : List (Option Held)) → length (filter (λ row. is_some row) rows) ≡ length (live rows)
length-some [] = refl
length-some (None ∷ rows) = length-some rows
length-some (Some h ∷ rows) = ap suc (length-some rows)

-- ---- a connection that stands in no row

past_end : {X : Type 0} (xs : List X) (i : ℕ) → length xs ≤ i → slice_get xs i ≡ None
past_end [] i h = refl
past_end (x ∷ xs) zero h = absurd (omega arith)
past_end (x ∷ xs) (suc i) h = past_end xs i (omega arith)

pub not_found : {X : Type 0} (p : X → Bool) (xs : List X) → position p xs ≡ None → find p xs ≡ None
not_found p xs e = by (ltb (position_or_len p xs) (length xs)) refl e
  where
    by : (b : Bool) → ltb (position_or_len p xs) (length xs) ≡ b → cond b (Some (position_or_len p xs)) None ≡ None → find p xs ≡ None
    by true t e = absurd (cc)
    by false t e = find_at p xs ∙ past_end xs (position_or_len p xs) (ltb-false (position_or_len p xs) (length xs) t)

pub no_row : (conn : ℕ) (rows : List (Option Held)) → find (is_row_of conn) rows ≡ None → held_of conn (live rows) ≡ None
no_row conn [] e = refl
no_row conn (None ∷ rows) e = no_row conn rows e
no_row conn (Some h ∷ rows) e = by (eqb h.conn conn) e (no_row conn rows)
  where
    by : (b : Bool) → cond b (Some (Some h)) (find (is_row_of conn) rows) ≡ None → (find (is_row_of conn) rows ≡ None → held_of conn (live rows) ≡ None) → cond b (Some h) (held_of conn (live rows)) ≡ None
    by true e rest = absurd (cc)
    by false e rest = rest e

-- ---- a connection that stands in a row

row_is : (conn : ℕ) (row : Option Held) → is_row_of conn row ≡ true → (h : Held) × (row ≡ Some h) × (h.conn ≡ conn)
row_is conn None e = absurd (cc)
row_is conn (Some h) e = (h, refl, eqb-true _ _ e)

pub found_row : (conn : ℕ) (rows : List (Option Held)) (i : ℕ) → position (is_row_of conn) rows ≡ Some i → IsRowOf conn rows i
found_row conn rows i e =
    let at = position-Some (is_row_of conn) rows i None e in
    let row = row_is conn (get_or rows i None) at.1 in
    (row.0, ap (λ o. unwrap_or o None) (slice_get-get_or rows i None at.0) ∙ row.1, row.2)

pub row-within : (rows : List (Option Held)) (i : ℕ) (h : Held) → row_at rows i ≡ Some h → i < length rows
row-within [] i h at = absurd (cc)
row-within (row ∷ rows) zero h at = omega arith
row-within (row ∷ rows) (suc i) h at = let rest = row-within rows i h at in omega arith

row-times : (conn : ℕ) (rows : List (Option Held)) (i : ℕ) (h : Held) → row_at rows i ≡ Some h → h.conn ≡ conn → 1 ≤ times_held conn (live rows)
row-times conn [] i h at is = absurd (cc)
row-times conn (None ∷ rows) zero h at is = absurd (cc)
row-times conn (None ∷ rows) (suc i) h at is = row-times conn rows i h at is
row-times conn (Some g ∷ rows) zero h at is =
    let same : g ≡ h = cc in
    let test : eqb g.conn conn ≡ true = eq-eqb _ _ (ap (λ (x : Held). x.conn) same ∙ is) in
    rw test (omega arith)
row-times conn (Some g ∷ rows) (suc i) h at is = let rest = row-times conn rows i h at is in omega arith

pub row-held : (conn : ℕ) (rows : List (Option Held)) (i : ℕ) (h : Held) → row_at rows i ≡ Some h → h.conn ≡ conn → times_held conn (live rows) ≤ 1 → held_of conn (live rows) ≡ Some h
row-held conn [] i h at is once = absurd (cc)
row-held conn (None ∷ rows) zero h at is once = absurd (cc)
row-held conn (None ∷ rows) (suc i) h at is once = row-held conn rows i h at is once
row-held conn (Some g ∷ rows) zero h at is once =
    let same : g ≡ h = cc in
    let test : eqb g.conn conn ≡ true = eq-eqb _ _ (ap (λ (x : Held). x.conn) same ∙ is) in
    rw (test, same) refl
row-held conn (Some g ∷ rows) (suc i) h at is once = by (eqb g.conn conn) once (row-times conn rows i h at is) (row-held conn rows i h at is)
  where
    by : (b : Bool) → cond b 1 0 + times_held conn (live rows) ≤ 1 → 1 ≤ times_held conn (live rows) → (times_held conn (live rows) ≤ 1 → held_of conn (live rows) ≡ Some h) → cond b (Some g) (held_of conn (live rows)) ≡ Some h
    by true once more rest = absurd (omega arith)
    by false once more rest = rest (omega arith)

-- its row is made empty
pub row-taken : (conn : ℕ) (rows : List (Option Held)) (i : ℕ) (h : Held) → row_at rows i ≡ Some h → h.conn ≡ conn → times_held conn (live rows) ≤ 1 → live (slice_set rows i None) ≡ without_held conn (live rows)
row-taken conn [] i h at is once = absurd (cc)
row-taken conn (None ∷ rows) zero h at is once = absurd (cc)
row-taken conn (None ∷ rows) (suc i) h at is once = row-taken conn rows i h at is once
row-taken conn (Some g ∷ rows) zero h at is once =
    let same : g ≡ h = cc in
    let test : eqb g.conn conn ≡ true = eq-eqb _ _ (ap (λ (x : Held). x.conn) same ∙ is) in
    let none : times_held conn (live rows) ≡ 0 = (let all = rw test at once in omega arith) in
    rw test (sym (filter-times_none (λ (x : Held). eqb x.conn conn) (live rows) none))
row-taken conn (Some g ∷ rows) (suc i) h at is once = by (eqb g.conn conn) once (row-times conn rows i h at is) (row-taken conn rows i h at is)
  where
    by : (b : Bool) → cond b 1 0 + times_held conn (live rows) ≤ 1 → 1 ≤ times_held conn (live rows) → (times_held conn (live rows) ≤ 1 → live (slice_set rows i None) ≡ without_held conn (live rows))
        → g ∷ live (slice_set rows i None) ≡ cond (not b) (g ∷ without_held conn (live rows)) (without_held conn (live rows))
    by true once more rest = absurd (omega arith)
    by false once more rest = ap (λ hs. g ∷ hs) (rest (omega arith))

pub length-taken : (rows : List (Option Held)) (i : ℕ) (h : Held) → row_at rows i ≡ Some h → length (live (slice_set rows i None)) + 1 ≡ length (live rows)
length-taken [] i h at = absurd (cc)
length-taken (None ∷ rows) zero h at = absurd (cc)
length-taken (None ∷ rows) (suc i) h at = length-taken rows i h at
length-taken (Some g ∷ rows) zero h at = omega arith
length-taken (Some g ∷ rows) (suc i) h at = let rest = length-taken rows i h at in omega arith
