-- Bytes that may still become a message (MongoDB wire protocol, Standard Message Header; how much is asked for: own).
use Rattle.std.specs.Prelude.{◌≡◌, ◌≢◌, ℕ, List, [], ◌++◌, Some}
use Rattle.msg_wire.specs.Reading.{flaw}
use Rattle.msg_wire.specs.declared.fault.MsgFault.{MsgFault}
use Rattle.msg_wire.specs.declared.fault.MsgFault.TheVariants as fault

-- The bytes are the front of a message, or nothing: their one fault is that more bytes are needed. So they are no whole
-- message, and once a header is there it is in order.
pub record IsFront (bytes : List ℕ) : Type 0 where
  pub need : ℕ
  pub short : flaw bytes ≡ Some (fault.Short need)

-- No byte of them is one too many: whatever lacks one of them is still a front. So nothing stands behind a message, and
-- nothing behind a header that is out of order.
abbrev pub HasNoneTooMany : List ℕ → Type 0
HasNoneTooMany bytes = (front more : List ℕ) → bytes ≡ front ++ more → more ≢ [] → IsFront front

-- The fault is one of the bytes: not that more are needed, nor that memory ran out.
abbrev pub IsRefusal : MsgFault → Type 0
IsRefusal (fault.Short need) = ⊥
IsRefusal fault.Memory = ⊥
IsRefusal _ = Unit {0}

-- The bytes are refused for this fault, the first of them, at the first byte at which it shows.
pub record IsRefused (bytes : List ℕ) (first : MsgFault) : Type 0 where
  pub is_flaw : flaw bytes ≡ Some first
  pub refusal : IsRefusal first
  pub early : HasNoneTooMany bytes
