-- What a caller goes by that takes a message from a stream: it reads 16 bytes, learns how many the message has, and reads
-- exactly those (own).
use Rattle.std.specs.Prelude.{◌≡◌, ℕ, ◌<◌, ◌≤◌, List, length, Some}
use Rattle.msg_wire.specs.Reading.{need_of}

-- What Short asks for: more bytes than are there, 16 where the header is not there, else as many as the header's
-- messageLength says, which is in its range.
pub record AsksFor (bytes : List ℕ) (n : ℕ) : Type 0 where
  pub more : length bytes < n
  pub header : length bytes < 16 → n ≡ 16
  pub message : 16 ≤ length bytes → need_of bytes ≡ Some n

-- The bytes are as many as the messageLength at their front says, which is in its range.
abbrev pub IsWhole : List ℕ → Type 0
IsWhole bytes = need_of bytes ≡ Some (length bytes)
