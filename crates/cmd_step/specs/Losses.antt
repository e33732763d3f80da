-- A connection that a command dialled comes to nothing (CMAP, Establishing a Connection; SDAM, Error handling).
use Rattle.std.specs.Prelude.{◌≡◌, ℕ, true, false, List, [], Option, None, Some}
use Rattle.pool_book.specs.declared.answers.CloseReason.TheVariants.{Errored}
use Rattle.pool_book.specs.declared.connections.Held.{Held}
use Rattle.pool_book.specs.Pool.{held_of}
use Rattle.write_retry.specs.declared.attempt_end.AttemptEnd.TheVariants as attempt
use Rattle.write_retry.specs.declared.events.Next.TheVariants as next
use Rattle.write_retry.specs.declared.events.Unsent.{Unsent}
use Rattle.write_retry.specs.declared.events.Unsent.TheVariants as unsent
use Rattle.desk_trail.specs.declared.entry.Entry.TheVariants as entry
use Rattle.desk_trail.specs.Attempts.{not_lent_offers}
use Rattle.desk_trail.specs.Facts as fact
use Rattle.desk_trail.specs.Legal.{Exceeds, InTime, Point, is_greeting}
use Rattle.desk_trail.specs.Owed.{InTurn, Owed, left_owed}
use Rattle.desk_trail.specs.States.{CommandState, Dials, ServerState}
use Rattle.desk_trail.specs.Written.{an_entry}
use Rattle.legal_trail.specs.Recorded.{Adds, Recorded}
use Rattle.cmd_step.specs.Places.{with_both}
use Rattle.cmd_step.specs.Times.{TellsTime}
use Rattle.cmd_step.specs.declared.losing.Loss.{Loss}
use Rattle.cmd_step.specs.declared.place.At.{At}

-- The command dialled the connection, which is pending, by the ticket that its pool keeps of it.
pub record HasDialled (at : At) (conn : ℕ) (s : ServerState) (c : CommandState) : Type 0 where
  pub held : Held
  pub pending : held_of conn s.pool.state.pending ≡ Some held
  pub dials : c.check_out ≡ Dials at.host held.ticket conn
  pub asks : c.op.next ≡ next.CheckOut at.host

-- It could not be made, or its greeting was refused.
abbrev pub IsLoss : Unsent → Type 0
IsLoss (unsent.Dial bad) = Unit {0}
IsLoss (unsent.Greeting code) = Unit {0}
IsLoss u = ⊥

-- The entry that says so may come: it is the one that must come next, or none must; and none must behind it.
pub record IsToTell (p : Point) (at : At) (why : Unsent) : Type 0 where
  pub time : InTime p.owed p.moment at.moment
  pub turn : InTurn p.owed (fact.NotLent at.op at.host why)
  pub alone : left_owed p.owed (fact.NotLent at.op at.host why) ≡ []
  pub goes_on : p.state.is_ending ≡ false

-- Only a refused greeting tells a cluster time, which exceeds the greatest that was seen.
abbrev pub IsNews : Point → Unsent → Option ℕ → Type 0
IsNews p why None = Unit {0}
IsNews p why (Some stamp) = (is_greeting why ≡ true) × Exceeds stamp p.time

-- The event that is to be offered behind it, where there is one: the server with the connection's generation is broken.
abbrev pub loss_owes : ServerState → Held → Unsent → List Owed
loss_owes s h why = not_lent_offers (Some (record { server = s; generation = h.generation })) why

-- It is lost: entries say that the command gets no connection, which cluster time came, that its attempt ended, and that the
-- connection is shut.
pub record IsLost (at : At) (loss : Loss) (old new : Recorded) (t : ServerState) (d : CommandState) : Type 0 where
  pub mid : Recorded
  pub heard : Recorded
  pub ended : Recorded
  pub told : Adds an_entry old.lists at.moment (entry.NotLent at.op at.host loss.why) (fact.NotLent at.op at.host loss.why) old mid
  pub news : TellsTime at.moment loss.news mid heard
  pub ends : Adds an_entry heard.lists at.moment (entry.Ended at.op (attempt.Unsent loss.why)) (fact.Ended at.op (attempt.Unsent loss.why)) heard ended
  pub shuts : Adds an_entry ended.lists at.moment (entry.ConnShut at.host loss.conn Errored) (fact.ConnShut at.host loss.conn Errored) ended new
  pub moved : new.point.state ≡ with_both old.point.state at t d
