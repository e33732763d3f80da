-- The flag bits of a message (MongoDB wire protocol, OP_MSG, Flag Bits).
use Rattle.std.specs.Prelude.{ℕ, Bool, ◌==◌, Option, find, if◌then◌else◌}
use Rattle.std.specs.Int.{bit_at}
use Rattle.std.specs.List.{range_with_len}

-- The bit is set.
abbrev pub is_set : ℕ → ℕ → Bool
is_set flags bit = bit_at flags bit == 1

-- The lowest bit that refuses the message. Bits 0 to 15 are required: one that is set and not known refuses it. Bit 0,
-- checksumPresent, and bit 1, moreToCome, are known; bits 16 to 31 are optional, and are read as they come.
unfoldable pub refused_bit : ℕ → Option ℕ
refused_bit flags = find (is_set flags) (range_with_len 2 14)

-- How many bytes of a checksum end the message: four where bit 0, checksumPresent, is set.
unfoldable pub checksum_size : ℕ → ℕ
checksum_size flags = if is_set flags 0 then 4 else 0
