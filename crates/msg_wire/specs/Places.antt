-- Where a message is at fault, and what makes it a faulty answer.
use Rattle.std.specs.Prelude.{◌≡◌, ◌≢◌, ℕ, ℤ, List, Option, Some, None}
use Rattle.msg_wire.specs.Framing.{Framed}
use Rattle.msg_wire.specs.Reading.{flaw}
use Rattle.msg_wire.specs.declared.fault.MsgFault.{MsgFault}
use Rattle.msg_wire.specs.declared.fault.MsgFault.TheVariants as fault
use Rattle.msg_wire.specs.declared.message.Message.{Message}

-- The places of fields that a fault names (MongoDB wire protocol, Standard Message Header and OP_MSG).
abbrev pub message_length_at : ℕ
message_length_at = 0

abbrev pub response_to_at : ℕ
response_to_at = 8

abbrev pub op_code_at : ℕ
op_code_at = 12

abbrev pub flag_bits_at : ℕ
flag_bits_at = 16

-- The place in the message that a fault names: that of the header's field, else the one that it tells. That bytes or
-- memory are wanting has no place.
abbrev pub place_of : MsgFault → Option ℕ
place_of (fault.Short need) = None
place_of (fault.Length got) = Some message_length_at
place_of (fault.Opcode got) = Some op_code_at
place_of (fault.Flags bit) = Some flag_bits_at
place_of (fault.Sections at) = Some at
place_of (fault.Body at inner) = Some at
place_of fault.Memory = None

-- The bytes do not begin with a message: their first fault is at the place.
pub record IsFaultyAt (bytes : List ℕ) (at : ℕ) : Type 0 where
  pub first : MsgFault
  pub is_flaw : flaw bytes ≡ Some first
  pub is_place : place_of first ≡ Some at

-- The bytes are a message that does not answer the request of that number: its responseTo, at the place, is another.
pub record AnswersAnother (id : ℤ) (bytes : List ℕ) (at : ℕ) : Type 0 where
  pub message : Message
  pub framed : Framed bytes message
  pub other : message.to ≢ id
  pub is_place : at ≡ response_to_at
