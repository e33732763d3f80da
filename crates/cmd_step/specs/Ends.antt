-- An attempt ends by itself, and a command is answered (Retryable Writes, Executing Retryable Write Commands).
use Rattle.std.specs.Prelude.{ℕ, slice_set}
use Rattle.write_retry.specs.declared.attempt_end.AttemptEnd.{AttemptEnd}
use Rattle.write_retry.specs.declared.attempt_end.AttemptEnd.TheVariants as attempt
use Rattle.write_retry.specs.declared.events.OpEvent.TheVariants as event
use Rattle.write_retry.specs.declared.events.Unsent.{Unsent}
use Rattle.desk_trail.specs.Attempts.{end_by, with_event}
use Rattle.desk_trail.specs.States.{ClientState, CommandState, Nothing}

-- It ends behind its request, not since that was not sent.
abbrev pub IsBehindRequest : AttemptEnd → Type 0
IsBehindRequest (attempt.Unsent u) = ⊥
IsBehindRequest end = Unit {0}

-- The command once its attempt ended since it got no connection: it is with no pool.
abbrev pub without_connection : Unsent → CommandState → CommandState
without_connection why c = with_event (event.Unsent why) (end_by (attempt.Unsent why) (record c { check_out = Nothing }))

-- The client with this command in its place.
abbrev pub with_it : ClientState → ℕ → CommandState → ClientState
with_it w op c = record w { commands = slice_set w.commands op c }
