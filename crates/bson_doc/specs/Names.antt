-- Which texts may be names of elements (bsonspec 1.1, cstring).
use Rattle.std.specs.Prelude.{◌≡◌, ℕ, ◌==◌, List, None, position}

-- No byte of the text is zero.
abbrev pub HasNoZero : List ℕ → Type 0
HasNoZero bytes = position (λ b. b == 0) bytes ≡ None
