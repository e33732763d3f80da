-- A text is cut where its first LF stands.
use Rattle.std.proofs.Common.{◌≡◌, ◌<◌, ◌≤◌, ℕ, suc, ◌+◌, ◌==◌, List, [], ◌∷◌, length, take, drop, Bool, true, false, cond, not, Some, None, refl, ap, ◌∙◌, arith, ltb}
use Rattle.std.specs.List.{position, position_or_len}
use borrow.Author.Tests.{ltb-true}
use Rattle.script_text.specs.Lines.{cut, onto, ended, lines_of, without_cr}

-- the place of the first LF, or the length
abbrev feed : List ℕ → ℕ
feed text = position_or_len (λ b. b == 10) text

cut-feed_by : (t : Bool) (b n : ℕ) (rest : List ℕ) → (n < length rest → cut rest ≡ take n rest ∷ cut (drop (n + 1) rest))
    → cond (not t) (1 + n) 0 < length (b ∷ rest)
    → cond t ([] ∷ cut rest) (onto b (cut rest)) ≡ take (cond (not t) (1 + n) 0) (b ∷ rest) ∷ cut (drop (cond (not t) (1 + n) 0 + 1) (b ∷ rest))
cut-feed_by true b n rest ih h = refl
cut-feed_by false b n rest ih h =
    let before : n < length rest = omega arith in
    let both : 1 + n + 1 ≡ suc (n + 1) = omega arith in
    let one : 1 + n ≡ suc n = omega arith in
    rw (both, one, ih before)

cut-feed : (text : List ℕ) → feed text < length text → cut text ≡ take (feed text) text ∷ cut (drop (feed text + 1) text)
cut-feed [] h = absurd (omega arith)
cut-feed (b ∷ rest) h = cut-feed_by (b == 10) b (feed rest) rest (cut-feed rest) h

cut-no_feed_by : (t : Bool) (b n : ℕ) (rest : List ℕ) → (length rest ≤ n → cut rest ≡ rest ∷ []) → length (b ∷ rest) ≤ cond (not t) (1 + n) 0
    → cond t ([] ∷ cut rest) (onto b (cut rest)) ≡ (b ∷ rest) ∷ []
cut-no_feed_by true b n rest ih h = absurd (omega arith)
cut-no_feed_by false b n rest ih h = let behind : length rest ≤ n = omega arith in rw (ih behind)

cut-no_feed : (text : List ℕ) → length text ≤ feed text → cut text ≡ text ∷ []
cut-no_feed [] h = refl
cut-no_feed (b ∷ rest) h = cut-no_feed_by (b == 10) b (feed rest) rest (cut-no_feed rest) h

ended_by : (t : Bool) (part : List ℕ) (b : ℕ) (parts : List (List ℕ))
    → ended (part ∷ cond t ([] ∷ parts) (onto b parts)) ≡ without_cr part ∷ ended (cond t ([] ∷ parts) (onto b parts))
ended_by true part b parts = refl
ended_by false part b [] = refl
ended_by false part b (p ∷ ps) = refl

-- a part in front of others is a line that LF ends
ended-cut : (part text : List ℕ) → ended (part ∷ cut text) ≡ without_cr part ∷ ended (cut text)
ended-cut part [] = refl
ended-cut part (b ∷ rest) = ended_by (b == 10) part b (cut rest)

place_by : (t : Bool) (n len at : ℕ) → ltb n len ≡ t → cond t (Some n) None ≡ Some at → (n ≡ at) × (n < len)
place_by true n len at is found = (cc, ltb-true n len is)
place_by false n len at is found = cc

none_by : (t : Bool) (n len : ℕ) → ltb n len ≡ t → cond t (Some n) None ≡ None → ltb n len ≡ false
none_by true n len is found = cc
none_by false n len is found = is

-- the first line ends at the first LF
pub lines_of-feed : (text : List ℕ) (at : ℕ) → position (λ b. b == 10) text ≡ Some at → lines_of text ≡ without_cr (take at text) ∷ lines_of (drop (at + 1) text)
lines_of-feed text at found =
    let place = place_by (ltb (feed text) (length text)) (feed text) (length text) at refl found in
    let cuts = cut-feed text place.1 in
    let here : cut text ≡ take at text ∷ cut (drop (at + 1) text) = rw place.0 at cuts in
    ap ended here ∙ ended-cut (take at text) (drop (at + 1) text)

-- without an LF the text is one line
pub lines_of-no_feed : (text : List ℕ) → position (λ b. b == 10) text ≡ None → lines_of text ≡ text ∷ []
lines_of-no_feed text found =
    let none : ltb (feed text) (length text) ≡ false = none_by (ltb (feed text) (length text)) (feed text) (length text) refl found in
    let behind : length text ≤ feed text = grind arith in
    ap ended (cut-no_feed text behind)
