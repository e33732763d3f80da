-- A message read from its parts.
use Rattle.std.proofs.Common.{◌≡◌, ℕ, List, length, drop, None, Ok, refl}
use Rattle.msg_wire.specs.Fields.{number_at, signed_at}
use Rattle.msg_wire.specs.Flags.{refused_bit, checksum_size}
use Rattle.msg_wire.specs.Reading.{checked_flags, message_at}
use Rattle.msg_wire.specs.Sections.{Held, sections_at}

pub message_at-parts : (bytes : List ℕ) (flags : ℕ) (held : Held)
    → checked_flags (number_at 16 bytes) (refused_bit (number_at 16 bytes)) ≡ Ok flags → sections_at (length bytes) (checksum_size flags) (length bytes) None (drop 20 bytes) ≡ Ok held
    → message_at bytes ≡ Ok (record { id = signed_at 4 bytes; to = signed_at 8 bytes; flags = flags; body = held.0; sequences = held.1; length = length bytes })
unfolding message_at
message_at-parts bytes flags held p q = rw (p, q) refl
