-- The limits of a document (own: the standard has none).
use Rattle.std.specs.Prelude.{ℕ}

-- The most bytes that a document has.
abbrev pub most_bytes : ℕ
most_bytes = 48000000

-- The most levels that a document has: itself, and the documents and arrays that lie in one another.
abbrev pub most_levels : ℕ
most_levels = 100
