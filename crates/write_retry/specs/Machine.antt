-- What each event does to a command on its way (Retryable Writes, Executing Retryable Write Commands).
use Rattle.std.specs.Prelude.{ℕ, ◌==◌, Bool, true, false, ◌&&◌, Option, None, Some, if◌then◌else◌}
use Rattle.write_retry.specs.declared.attempt_end.AttemptEnd.{AttemptEnd}
use Rattle.write_retry.specs.declared.attempt_end.AttemptEnd.TheVariants as attempt
use Rattle.write_retry.specs.declared.events.Unsent.{Unsent}
use Rattle.write_retry.specs.declared.events.Unsent.TheVariants as unsent
use Rattle.write_retry.specs.declared.events.OpEvent.{OpEvent}
use Rattle.write_retry.specs.declared.events.OpEvent.TheVariants as event
use Rattle.write_retry.specs.declared.events.Next.{Next}
use Rattle.write_retry.specs.declared.events.Next.TheVariants as next
use Rattle.write_retry.specs.declared.outcome.Outcome.{Outcome}
use Rattle.write_retry.specs.declared.outcome.Outcome.TheVariants as outcome
use Rattle.write_retry.specs.Verdict.{again, given, said}

-- A command on its way: whether it writes, and is a write that may be repeated; whether it drew a transaction number; how its
-- first attempt ended; what is to be done next.
pub record Op : Type 0 where
  pub write : Bool
  pub retryable : Bool
  pub drew : Bool
  pub first : Option AttemptEnd
  pub next : Next

-- A server is to be selected first.
abbrev pub new_op : Bool → Bool → Op
new_op write retryable = record { write = write; retryable = retryable; drew = false; first = None; next = next.Select }

-- A check-out from the pool of a server may end so without a connection: a closed pool is that server's, and no size is known
-- yet.
abbrev pub answers_check_out : ℕ → Unsent → Bool
answers_check_out host (unsent.PoolClosed closed) = closed == host
answers_check_out host (unsent.TooLarge size most) = false
answers_check_out host unsent.PoolLate = true
answers_check_out host (unsent.PoolCleared generation) = true
answers_check_out host (unsent.Dial bad) = true
answers_check_out host (unsent.Greeting code) = true

-- A connection was checked out, and the request was not queued: the command is too large.
abbrev pub answers_send : Unsent → Bool
answers_send (unsent.TooLarge size most) = true
answers_send u = false

-- Which events answer what is to be done next. While a request is not all out nothing is read, so there the stream's end is not
-- seen.
abbrev pub allows : Next → OpEvent → Bool
allows next.Select (event.Chosen host numbered) = true
allows next.Select event.NoServer = true
allows next.Select (event.Incompatible host min max) = true
allows (next.CheckOut host) event.Lent = true
allows (next.CheckOut host) (event.Unsent u) = answers_check_out host u
allows next.Send event.Sent = true
allows next.Send event.Fault = true
allows next.Send event.TimedOut = true
allows next.Send (event.Unsent u) = answers_send u
allows next.Read (event.Replied reading) = true
allows next.Read event.Cut = true
allows next.Read event.Fault = true
allows next.Read event.TimedOut = true
allows next.Read (event.Bad at) = true
allows asked e = false

-- A number is drawn at the first chosen server, of a write that may be repeated, where that server is one at which numbers are
-- drawn (Retryable Writes, Generating Transaction Identifiers).
abbrev pub draws : Bool → Bool → Bool → Bool
draws write retryable numbered = write && retryable && numbered

-- A server was chosen: an attempt begins. The second one begins only where a number would be drawn there; else the first one's
-- end is the answer.
abbrev pub chosen_by : ℕ → Bool → Option AttemptEnd → Op → Op
chosen_by host numbered None c = record c { drew = draws c.write c.retryable numbered; next = next.CheckOut host }
chosen_by host true (Some first) c = record c { next = next.CheckOut host }
chosen_by host false (Some first) c = record c { next = next.Answer (said first) }

abbrev pub chosen : ℕ → Bool → Op → Op
chosen host numbered c = chosen_by host numbered c.first c

-- A look chose no server: the answer says so, or is the first attempt's end.
abbrev pub answer_without : Outcome → Option AttemptEnd → Next
answer_without o None = next.Answer o
answer_without o (Some first) = next.Answer (said first)

abbrev pub failed : Outcome → Op → Op
failed o c = record c { next = answer_without o c.first }

-- Behind the first attempt the command is repeated where it may be; else it is answered.
abbrev pub after_first : Bool → AttemptEnd → Next
after_first drew end = if again drew end then next.Select else next.Answer (said end)

-- An attempt ended. Behind the second one the command is answered.
abbrev pub ended_by : AttemptEnd → Option AttemptEnd → Op → Op
ended_by end None c = record c { first = Some end; next = after_first c.drew end }
ended_by end (Some first) c = record c { next = next.Answer (given first end) }

abbrev pub ended : AttemptEnd → Op → Op
ended end c = ended_by end c.first c

-- The command behind an event.
abbrev pub after : Op → OpEvent → Op
after c (event.Chosen host numbered) = chosen host numbered c
after c event.NoServer = failed outcome.NoServer c
after c (event.Incompatible host min max) = failed (outcome.Incompatible host min max) c
after c event.Lent = record c { next = next.Send }
after c event.Sent = record c { next = next.Read }
after c (event.Unsent u) = ended (attempt.Unsent u) c
after c (event.Replied reading) = ended (attempt.Replied reading) c
after c event.Cut = ended attempt.Cut c
after c event.Fault = ended attempt.Fault c
after c event.TimedOut = ended attempt.TimedOut c
after c (event.Bad at) = ended (attempt.Bad at) c
