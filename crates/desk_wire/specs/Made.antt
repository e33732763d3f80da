-- The calls of a net that one call of this crate made, as its history tells them.
use Rattle.std.specs.Prelude.{◌≡◌, ◌≢◌, ◌==◌, ℕ, Bool, true, false, List, [], ◌++◌, All, flat_map}
use Rattle.net_link.specs.Events.{Adds}
use Rattle.net_link.specs.declared.event.NetEvent.{NetEvent}
use Rattle.net_link.specs.declared.event.NetEvent.TheVariants as event

-- A write on the stream took bytes.
abbrev pub is_write : ℕ → NetEvent → Bool
is_write stream (event.Out s bytes) = s == stream
is_write stream _ = false

-- A read on the stream gave bytes.
abbrev pub is_read : ℕ → NetEvent → Bool
is_read stream (event.Came s bytes) = s == stream
is_read stream _ = false

-- A write or a read on the stream, which took or gave bytes, or had to wait.
abbrev pub is_turn : ℕ → NetEvent → Bool
is_turn stream (event.Out s bytes) = s == stream
is_turn stream (event.Came s bytes) = s == stream
is_turn stream (event.Full s) = s == stream
is_turn stream (event.Dry s) = s == stream
is_turn stream _ = false

-- The bytes that a write took, and that a read gave.
abbrev pub bytes_out : NetEvent → List ℕ
bytes_out (event.Out s bytes) = bytes
bytes_out _ = []

abbrev pub bytes_in : NetEvent → List ℕ
bytes_in (event.Came s bytes) = bytes
bytes_in _ = []

-- All that was asked of the net: calls of a kind, by which exactly these bytes went out and those came, and behind them
-- what the last call answered where that was nothing of the kind.
-- own: no other stream was touched, and nothing was dialled or closed.
pub record Made (kind : NetEvent → Bool) (out came : List ℕ) (last old new : List NetEvent) : Type 0 where
  pub turns : List NetEvent
  pub adds : Adds (turns ++ last) old new
  pub only : All (λ e. kind e ≡ true) turns
  pub is_out : flat_map bytes_out turns ≡ out
  pub is_in : flat_map bytes_in turns ≡ came

-- A write on the stream, which took bytes or had to wait; and such a read.
abbrev pub is_writing : ℕ → NetEvent → Bool
is_writing stream (event.Out s bytes) = s == stream
is_writing stream (event.Full s) = s == stream
is_writing stream _ = false

abbrev pub is_reading : ℕ → NetEvent → Bool
is_reading stream (event.Came s bytes) = s == stream
is_reading stream (event.Dry s) = s == stream
is_reading stream _ = false

-- The same calls in their order: first writes, then reads, then what the last call answered. Nothing is written where
-- nothing was unsent, and nothing is read while bytes are.
-- own: so each turn writes before it reads.
pub record InOrder (stream : ℕ) (unsent rest : List ℕ) (last old new : List NetEvent) : Type 0 where
  pub writes : List NetEvent
  pub reads : List NetEvent
  pub adds : Adds (writes ++ reads ++ last) old new
  pub only_writes : All (λ e. is_writing stream e ≡ true) writes
  pub only_reads : All (λ e. is_reading stream e ≡ true) reads
  pub idle : unsent ≡ [] → writes ≡ []
  pub behind : rest ≢ [] → reads ≡ []
