-- What contracts see of a wire: one stream's unsent bytes and half-read message.
use Rattle.std.specs.Prelude.{ℕ, Bool, false, List, []}

-- The bytes that were queued and not sent, and those that came and are not yet handed out as a message, in order.
-- own: the state of one stream between its calls.
pub record State : Type 0 where
  pub stream : ℕ
  pub unsent : List ℕ
  pub held : List ℕ
  -- nothing more is to be asked of it
  pub is_shut : Bool

-- Of a stream on which nothing was done.
abbrev pub opened : ℕ → State
opened stream = record { stream = stream; unsent = []; held = []; is_shut = false }
