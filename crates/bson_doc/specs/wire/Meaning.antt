-- What a fault says of the bytes that it is met in (own: the standard names no faults).
use Rattle.std.specs.Prelude.{◌≡◌, ◌≢◌, ℕ, ◌<◌, ◌≤◌, ◌⊎◌, List, length, take, Some, None}
use Rattle.std.specs.List.{slice_get}
use Rattle.byteorder.specs.Endian.{little_number}
use Rattle.bson_doc.specs.declared.bson_fault.BsonFault.{BsonFault}
use Rattle.bson_doc.specs.declared.bson_fault.BsonFault.TheVariants as fault
use Rattle.bson_doc.specs.wire.Kinds.{kind_of_byte}
use Rattle.bson_doc.specs.wire.Limits.{most_bytes}

-- The total in the four bytes at the front is in its range, and more bytes than are there.
pub record IsCut (bytes : List ℕ) : Type 0 where
  pub least : 5 ≤ little_number 4 (take 4 bytes)
  pub most : little_number 4 (take 4 bytes) ≤ most_bytes
  pub missing : length bytes < little_number 4 (take 4 bytes)

-- The byte stands at the place.
abbrev pub StandsAt : List ℕ → ℕ → ℕ → Type 0
StandsAt bytes at byte = slice_get bytes at ≡ Some byte

-- Each place lies inside the bytes; the type byte at its place has no kind and is no 00; the truth value at its place is
-- neither 0 nor 1; and no reading meets want of memory.
abbrev pub Means : List ℕ → BsonFault → Type 0
Means bytes fault.Short = (length bytes < 4) ⊎ IsCut bytes
Means bytes (fault.Length at) = at < length bytes
Means bytes (fault.Kind at byte) = StandsAt bytes at byte × (kind_of_byte byte ≡ None) × (byte ≢ 0)
Means bytes (fault.Utf8 at) = at < length bytes
Means bytes (fault.Bool at byte) = StandsAt bytes at byte × (2 ≤ byte)
Means bytes (fault.Deep at) = at < length bytes
Means bytes fault.Memory = ⊥
