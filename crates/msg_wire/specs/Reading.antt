-- Reading a message from the front, with the first fault that is met and its place (MongoDB wire protocol, OP_MSG; the
-- faults, their order and their places are own).
use Rattle.std.specs.Prelude.{ℕ, Bool, not, ◌&&◌, ◌==◌, List, length, take, drop, Option, Some, None, Result, Ok, Err, nat_lt, nat_le, if◌then◌else◌}
use Rattle.std.specs.Int.{w32, cast_signed}
use Rattle.bson_doc.specs.Steps.{◌>>=◌, fault_of}
pub use Rattle.msg_wire.specs.Fields.{number_at, signed_at}
use Rattle.msg_wire.specs.Flags.{refused_bit, checksum_size}
use Rattle.msg_wire.specs.Limits.{least_message, most_message, op_msg}
use Rattle.msg_wire.specs.Sections.{sections_at}
use Rattle.msg_wire.specs.declared.fault.MsgFault.{MsgFault}
use Rattle.msg_wire.specs.declared.fault.MsgFault.TheVariants as fault
use Rattle.msg_wire.specs.declared.message.Message.{Message}

-- The length of a message is in its range. A negative number has the highest bit of its four bytes set, so as a number
-- without a sign it is above the range.
abbrev pub is_length : ℕ → Bool
is_length n = nat_le least_message n && nat_le n most_message

-- The messageLength at the front of the bytes, where it is there and in its range.
abbrev pub need_of : List ℕ → Option ℕ
need_of bytes =
    if nat_lt (length bytes) 4 then None else
    if is_length (number_at 0 bytes) then Some (number_at 0 bytes) else
    None

-- The messageLength of a header whose messageLength and opCode are these, where so many bytes are there in all. All of
-- the header is looked at before more than the header is asked for.
abbrev pub checked_header : ℕ → ℕ → ℕ → Result ℕ MsgFault
checked_header there total code =
    if not (is_length total) then Err (fault.Length (cast_signed w32 total)) else
    if not (code == op_msg) then Err (fault.Opcode (cast_signed w32 code)) else
    if nat_lt there total then Err (fault.Short total) else
    Ok total

-- The messageLength of a header that is in order and whose message is there whole.
unfoldable pub header_at : List ℕ → Result ℕ MsgFault
header_at bytes =
    if nat_lt (length bytes) 16 then Err (fault.Short 16) else
    checked_header (length bytes) (number_at 0 bytes) (number_at 12 bytes)

-- The flag bits, none of which is refused; the fault names the lowest that is.
abbrev pub checked_flags : ℕ → Option ℕ → Result ℕ MsgFault
checked_flags flags None = Ok flags
checked_flags flags (Some bit) = Err (fault.Flags bit)

-- A whole message whose header is in order.
unfoldable pub message_at : List ℕ → Result Message MsgFault
message_at bytes = do
  flags ← checked_flags (number_at 16 bytes) (refused_bit (number_at 16 bytes))
  held ← sections_at (length bytes) (checksum_size flags) (length bytes) None (drop 20 bytes)
  Ok (record {
    id = signed_at 4 bytes;
    to = signed_at 8 bytes;
    flags = flags;
    body = held.0;
    sequences = held.1;
    length = length bytes;
  })

-- The message at the front of the bytes. What stands behind it is not looked at.
unfoldable pub read : List ℕ → Result Message MsgFault
read bytes = do
  total ← header_at bytes
  message_at (take total bytes)

-- The first fault of the bytes, and none where they begin with a message.
unfoldable pub flaw : List ℕ → Option MsgFault
flaw bytes = fault_of (read bytes)
