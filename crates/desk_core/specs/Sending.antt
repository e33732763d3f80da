-- What private functions say of the request that a command is to send (CRUD; Driver Sessions; MongoDB, Limits).
use Rattle.std.specs.Prelude.{◌≡◌, ◌≤◌, ℕ, None, Some}
use Rattle.write_retry.specs.declared.events.Unsent.TheVariants as unsent
use Rattle.request_build.specs.declared.sending.CommandRequest.{CommandRequest}
use Rattle.request_build.specs.declared.sending.CommandRequest.TheVariants as sent
use Rattle.cmd_step.specs.Sending.{IsNextOf, IsOver}
use Rattle.desk_trail.specs.States.{CommandState, Selected}
use Rattle.legal_trail.specs.Recorded.{Recorded}

-- A command asked for nothing since it chose a server, which takes no longer messages than this product writes.
pub record IsToAsk (c : CommandState) : Type 0 where
  pub selected : Selected
  pub chosen : c.selected ≡ Some selected
  pub size : selected.server.max_message ≤ 48000000
  pub unasked : c.asked ≡ None

-- What a command sends on a stream: its request, which is the next one; or it is too large, by these sizes.
abbrev pub IsToSend : Recorded → (op stream : ℕ) → CommandRequest → Type 0
IsToSend r op stream (sent.Made m) = IsNextOf r op m.request × (m.bytes ≡ m.request.bytes) × (m.request.stream ≡ stream)
IsToSend r op stream (sent.TooLarge size most) = IsOver r op (unsent.TooLarge size most)
