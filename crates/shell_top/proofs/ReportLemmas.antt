-- The lines of a report, one after another.
use Rattle.std.proofs.Common.{◌≡◌, ℕ, ◌+◌, ◌<◌, ◌≤◌, List, [], ◌∷◌, ◌++◌, length, drop, get_or, sym, ap, ◌∙◌, append_assoc, append-nil}
use Rattle.std.proofs.lemmas.List.{drop_more, drop_all}
use Rattle.host_name.specs.Addresses.{Address}
use Rattle.report_text.specs.Lines.{ignored_line}
use Rattle.shell_top.specs.Report.{ignored_lines, line_of, lines}
use Rattle.trail_tally.specs.declared.tally.Tally.{Tally}

-- One more piece of a text, whose rest begins with it.
told-piece : (text new piece rest whole : List ℕ) → new ≡ text ++ piece → text ++ (piece ++ rest) ≡ whole → new ++ rest ≡ whole
told-piece text new piece rest whole more told = ap (λ (xs : List ℕ). xs ++ rest) more ∙ append_assoc text piece rest ∙ told

-- No more of it.
whole-text : (text rest whole : List ℕ) → rest ≡ [] → text ++ rest ≡ whole → text ≡ whole
whole-text text rest whole none told = sym (append-nil text) ∙ ap (λ (xs : List ℕ). text ++ xs) (sym none) ∙ told

-- ---- The commands' lines

lines-left : (names : List Address) (ts : List Tally) (i : ℕ) (t : Tally) → i < length ts → t ≡ get_or ts i t →
    lines names (i + 1) (drop i ts) ≡ line_of names (i + 1) t ++ lines names (i + 1 + 1) (drop (i + 1) ts)
lines-left names ts i t lt is = ap (lines names (i + 1)) (drop_more ts i t lt ∙ ap (λ x. x ∷ drop (i + 1) ts) (sym is))

pub lines-more : (names : List Address) (text new whole : List ℕ) (ts : List Tally) (i : ℕ) (t : Tally) → i < length ts → t ≡ get_or ts i t → new ≡ text ++ line_of names (i + 1) t
    → text ++ lines names (i + 1) (drop i ts) ≡ whole → new ++ lines names (i + 1 + 1) (drop (i + 1) ts) ≡ whole
lines-more names text new whole ts i t lt is more told =
    told-piece text new (line_of names (i + 1) t) (lines names (i + 1 + 1) (drop (i + 1) ts)) whole more (ap (λ (xs : List ℕ). text ++ xs) (sym (lines-left names ts i t lt is)) ∙ told)

pub lines-all : (names : List Address) (text whole : List ℕ) (ts : List Tally) (i : ℕ) → length ts ≤ i → text ++ lines names (i + 1) (drop i ts) ≡ whole → text ≡ whole
lines-all names text whole ts i le told = whole-text text (lines names (i + 1) (drop i ts)) whole (ap (lines names (i + 1)) (drop_all i ts le)) told

-- ---- Those of the options that were ignored

ignored-left : (ns : List (List ℕ)) (i : ℕ) (n : List ℕ) → i < length ns → n ≡ get_or ns i n → ignored_lines (drop i ns) ≡ ignored_line n ++ ignored_lines (drop (i + 1) ns)
ignored-left ns i n lt is = ap ignored_lines (drop_more ns i n lt ∙ ap (λ x. x ∷ drop (i + 1) ns) (sym is))

pub ignored-more : (text new whole : List ℕ) (ns : List (List ℕ)) (i : ℕ) (n : List ℕ) → i < length ns → n ≡ get_or ns i n → new ≡ text ++ ignored_line n
    → text ++ ignored_lines (drop i ns) ≡ whole → new ++ ignored_lines (drop (i + 1) ns) ≡ whole
ignored-more text new whole ns i n lt is more told =
    told-piece text new (ignored_line n) (ignored_lines (drop (i + 1) ns)) whole more (ap (λ (xs : List ℕ). text ++ xs) (sym (ignored-left ns i n lt is)) ∙ told)

pub ignored-all : (text whole : List ℕ) (ns : List (List ℕ)) (i : ℕ) → length ns ≤ i → text ++ ignored_lines (drop i ns) ≡ whole → text ≡ whole
ignored-all text whole ns i le told = whole-text text (ignored_lines (drop i ns)) whole (ap ignored_lines (drop_all i ns le)) told
