-- What a command that waits for a connection got (CMAP, Checking Out a Connection).
use Rattle.std.specs.Prelude.{◌≡◌, ℕ, IsSome}
use Rattle.pool_book.specs.Answers.{MustWait}
use Rattle.pool_book.specs.Pool.{ticket_of}
use Rattle.write_retry.specs.declared.attempt_end.AttemptEnd.TheVariants as attempt
use Rattle.write_retry.specs.declared.events.Next.TheVariants as next
use Rattle.write_retry.specs.declared.events.Unsent.{Unsent}
use Rattle.desk_trail.specs.declared.entry.Entry.TheVariants as entry
use Rattle.desk_trail.specs.Facts as fact
use Rattle.desk_trail.specs.States.{CommandState, ServerState, Waits}
use Rattle.desk_trail.specs.Written.{an_entry}
use Rattle.legal_trail.specs.Recorded.{Adds, Recorded}
use Rattle.wired_trail.specs.Lines.{Lines}
use Rattle.cmd_step.specs.Dials.{HasFailed, IsDialled}
use Rattle.cmd_step.specs.Places.{with_both}
use Rattle.cmd_step.specs.declared.got.Answer.{Answer}
use Rattle.cmd_step.specs.declared.got.Answer.TheVariants as answer
use Rattle.cmd_step.specs.declared.place.At.{At}

-- The command waits in the line of the host's pool, which knows its ticket (CMAP, WaitQueue).
pub record IsInLine (at : At) (s : ServerState) (c : CommandState) : Type 0 where
  pub ticket : ℕ
  pub waits : c.check_out ≡ Waits at.host ticket
  pub asks : c.op.next ≡ next.CheckOut at.host
  pub there : IsSome (ticket_of ticket s.pool.state.waiting)

-- An available connection was lent to it: an entry says so, and the client has the server and the command as they are behind it.
pub record IsLent (at : At) (conn : ℕ) (old new : Recorded) (t : ServerState) (d : CommandState) : Type 0 where
  pub adds : Adds an_entry old.lists at.moment (entry.Lent at.op at.host conn) (fact.Lent at.op at.host conn) old new
  pub moved : new.point.state ≡ with_both old.point.state at t d

-- It got none and its attempt ended: two entries say so (CMAP, ConnectionCheckOutFailedEvent; Retryable Writes).
pub record IsRefused (at : At) (why : Unsent) (old new : Recorded) (t : ServerState) (d : CommandState) : Type 0 where
  pub mid : Recorded
  pub told : Adds an_entry old.lists at.moment (entry.NotLent at.op at.host why) (fact.NotLent at.op at.host why) old mid
  pub ends : Adds an_entry mid.lists at.moment (entry.Ended at.op (attempt.Unsent why)) (fact.Ended at.op (attempt.Unsent why)) mid new
  pub moved : new.point.state ≡ with_both old.point.state at t d

-- It goes on waiting by its ticket, since its pool has nothing else for it.
pub record GoesOnWaiting (at : At) (old new : Recorded) (s t : ServerState) (c d : CommandState) : Type 0 where
  pub unwritten : new ≡ old
  pub command : d ≡ c
  pub server : t ≡ s
  pub ticket : ℕ
  pub waits : c.check_out ≡ Waits at.host ticket
  pub must : MustWait s.pool.state at.moment ticket

-- What came of a dial: of that connection.
abbrev pub IsDial : At → ℕ → Answer → Recorded → Recorded → Lines → Lines → ServerState → CommandState → Type 0
IsDial at conn (answer.Dials n hello) old new before after t d = (n ≡ conn) × IsDialled at n hello old new before after t d
IsDial at conn (answer.Failed n) old new before after t d = (n ≡ conn) × HasFailed at n old new before after t d
IsDial at conn a old new before after t d = ⊥

-- By the answer: the entries, the client behind them, and the lines of the streams.
abbrev pub IsAnswer : At → Answer → Recorded → Recorded → Lines → Lines → ServerState → ServerState → CommandState → CommandState → Type 0
IsAnswer at (answer.Lent conn) old new before after s t c d = IsLent at conn old new t d × (after ≡ before)
IsAnswer at (answer.Refused why) old new before after s t c d = IsRefused at why old new t d × (after ≡ before)
IsAnswer at (answer.Dials conn hello) old new before after s t c d = IsDialled at conn hello old new before after t d
IsAnswer at (answer.Failed conn) old new before after s t c d = HasFailed at conn old new before after t d
IsAnswer at answer.Wait old new before after s t c d = GoesOnWaiting at old new s t c d × (after ≡ before)
