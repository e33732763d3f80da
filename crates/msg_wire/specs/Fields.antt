-- The numbers of a message, each of four bytes with the lowest first (MongoDB wire protocol, int32 and uint32).
use Rattle.std.specs.Prelude.{ℕ, ℤ, List, drop}
use Rattle.std.specs.Int.{w32, cast_signed}
use Rattle.byteorder.specs.Endian.{little_number}

-- The number in the four bytes at a place.
unfoldable pub number_at : ℕ → List ℕ → ℕ
number_at place bytes = little_number 4 (drop place bytes)

-- The same as a signed number.
abbrev pub signed_at : ℕ → List ℕ → ℤ
signed_at place bytes = cast_signed w32 (number_at place bytes)
