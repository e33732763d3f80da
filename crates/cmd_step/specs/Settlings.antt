-- The greeting of a connection that a command dialled was answered (CMAP, Establishing a Connection).
use Rattle.std.specs.Prelude.{◌≡◌, ℕ, Bool, true, false, [], if◌then◌else◌}
use Rattle.pool_book.specs.Entries as pool
use Rattle.pool_book.specs.Pool.{Pool, is_closed, shut_reason}
use Rattle.write_retry.specs.declared.attempt_end.AttemptEnd.TheVariants as attempt
use Rattle.write_retry.specs.declared.events.Unsent.{Unsent}
use Rattle.write_retry.specs.declared.events.Unsent.TheVariants as unsent
use Rattle.desk_trail.specs.declared.entry.Entry.TheVariants as entry
use Rattle.desk_trail.specs.Facts as fact
use Rattle.desk_trail.specs.States.{ClientState, CommandState, ServerState}
use Rattle.desk_trail.specs.Written.{an_entry}
use Rattle.legal_trail.specs.Recorded.{Adds, Recorded}
use Rattle.server_state.specs.PoolMoves.{MovesBy}
use Rattle.cmd_step.specs.Losses.{HasDialled}
use Rattle.cmd_step.specs.Places.{AreAt, with_both}
use Rattle.cmd_step.specs.Times.{TellsTime}
use Rattle.cmd_step.specs.declared.place.At.{At}
use Rattle.cmd_step.specs.declared.settled.Greeted.{Greeted}
use Rattle.cmd_step.specs.declared.settled.Settling.{Settling}
use Rattle.cmd_step.specs.declared.settled.Settling.TheVariants as settling

-- The connection that a command dialled is established, and behind that entry and all that must follow it the server is this one.
pub record IsSettled (w : ClientState) (at : At) (conn : ℕ) (stale : Bool) (new : ServerState) (c : CommandState) : Type 0 where
  pub server : ServerState
  pub places : AreAt w at server c
  pub idle : server.pool.owed ≡ []
  pub dialled : HasDialled at conn server c
  pub moves : MovesBy at.moment (pool.Settled dialled.held.ticket conn stale) server new

-- Why the command gets a connection not that settled too late: its pool is closed, or was cleared (CMAP, PoolClosedError,
-- PoolClearedError).
abbrev pub why_stale : ℕ → Pool → Unsent
why_stale host p = if is_closed p.state then unsent.PoolClosed host else unsent.PoolCleared p.generation

-- It is lent to the command: entries say that it settled, which cluster time came, and that it is lent.
pub record IsEstablished (at : At) (greeted : Greeted) (old new : Recorded) (t : ServerState) (d : CommandState) : Type 0 where
  pub mid : Recorded
  pub heard : Recorded
  pub settled : Adds an_entry old.lists at.moment (entry.Settled at.op at.host greeted.conn false) (fact.Settled at.op at.host greeted.conn false) old mid
  pub news : TellsTime at.moment greeted.news mid heard
  pub lent : Adds an_entry heard.lists at.moment (entry.Lent at.op at.host greeted.conn) (fact.Lent at.op at.host greeted.conn) heard new
  pub moved : new.point.state ≡ with_both old.point.state at t d

-- It is stale: entries say so, which cluster time came, that it is shut, that the command gets none, and that its attempt ended.
pub record IsStale (at : At) (greeted : Greeted) (why : Unsent) (old new : Recorded) (t : ServerState) (d : CommandState) : Type 0 where
  pub mid : Recorded
  pub heard : Recorded
  pub shut : Recorded
  pub refused : Recorded
  pub settled : Adds an_entry old.lists at.moment (entry.Settled at.op at.host greeted.conn true) (fact.Settled at.op at.host greeted.conn true) old mid
  pub news : TellsTime at.moment greeted.news mid heard
  pub shuts : Adds an_entry heard.lists at.moment (entry.ConnShut at.host greeted.conn (shut_reason t.pool.state.state false))
      (fact.ConnShut at.host greeted.conn (shut_reason t.pool.state.state false)) heard shut
  pub told : Adds an_entry shut.lists at.moment (entry.NotLent at.op at.host why) (fact.NotLent at.op at.host why) shut refused
  pub ends : Adds an_entry refused.lists at.moment (entry.Ended at.op (attempt.Unsent why)) (fact.Ended at.op (attempt.Unsent why)) refused new
  pub is_why : why ≡ why_stale at.host t.pool.state
  pub moved : new.point.state ≡ with_both old.point.state at t d

abbrev pub Settles : At → Greeted → Settling → Recorded → Recorded → ServerState → CommandState → Type 0
Settles at greeted settling.Lent old new t d = IsEstablished at greeted old new t d
Settles at greeted (settling.Refused why) old new t d = IsStale at greeted why old new t d
