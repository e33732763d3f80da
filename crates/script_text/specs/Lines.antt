-- The lines of a text of bytes (own, as of text files: each line ends with LF, and a CR before it is no part of it).
use Rattle.std.specs.Prelude.{ℕ, ◌+◌, ◌-◌, ◌==◌, List, [], ◌∷◌, length, take, slice_index, Bool, Option, Some, None, if◌then◌else◌, count_by}
use Rattle.std.specs.List.{list_all}

-- The byte at the front of the first part.
abbrev pub onto : ℕ → List (List ℕ) → List (List ℕ)
onto b [] = (b ∷ []) ∷ []
onto b (part ∷ parts) = (b ∷ part) ∷ parts

-- The parts between the LFs: one more than there are LFs.
abbrev pub cut : List ℕ → List (List ℕ)
cut [] = [] ∷ []
cut (b ∷ rest) = if b == 10 then [] ∷ cut rest else onto b (cut rest)

-- Without the CR at the end, where there is one.
abbrev pub without_cr : List ℕ → List ℕ
without_cr part = if slice_index part (length part - 1) == 13 then take (length part - 1) part else part

-- The lines: what stands behind the last LF is one too, which no LF ends.
abbrev pub ended : List (List ℕ) → List (List ℕ)
ended [] = []
ended (last ∷ []) = last ∷ []
ended (part ∷ next ∷ parts) = without_cr part ∷ ended (next ∷ parts)

abbrev pub lines_of : List ℕ → List (List ℕ)
lines_of text = ended (cut text)

-- The lines behind a line, of what stands behind its LF, where it has one.
abbrev pub lines_behind : Option (List ℕ) → List (List ℕ)
lines_behind None = []
lines_behind (Some rest) = lines_of rest

-- A line of spaces alone, or of nothing.
abbrev pub is_blank : List ℕ → Bool
is_blank line = list_all (λ b. b == 32) line

-- The number of the line, from 1, on which the byte behind these stands.
abbrev pub line_behind : List ℕ → ℕ
line_behind front = 1 + count_by (λ b. b == 10) front
