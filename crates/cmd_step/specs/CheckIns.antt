-- A connection comes back to its pool (CMAP, Checking In a Connection).
use Rattle.std.specs.Prelude.{◌≡◌, false, [], ◌∷◌, Some}
use Rattle.pool_book.specs.declared.answers.CloseReason.{CloseReason}
use Rattle.pool_book.specs.declared.answers.Fate.{Fate}
use Rattle.pool_book.specs.declared.answers.Fate.TheVariants as fate
use Rattle.pool_book.specs.declared.connections.Held.{Held}
use Rattle.pool_book.specs.Pool.{held_of}
use Rattle.desk_trail.specs.declared.entry.Entry.TheVariants as entry
use Rattle.desk_trail.specs.Facts as fact
use Rattle.desk_trail.specs.Legal.{Point}
use Rattle.desk_trail.specs.Owed as owed
use Rattle.desk_trail.specs.States.{CommandState, Has, ServerState}
use Rattle.desk_trail.specs.Written.{an_entry}
use Rattle.legal_trail.specs.Recorded.{Adds, Recorded}
use Rattle.cmd_step.specs.Places.{with_both}
use Rattle.cmd_step.specs.declared.checking_in.Back.{Back}
use Rattle.cmd_step.specs.declared.place.At.{At}

-- The check-in must come next, at the moment of the entry ahead, and nothing behind it.
pub record IsToComeBack (p : Point) (at : At) (back : Back) : Type 0 where
  pub owes : p.owed ≡ owed.CheckedIn at.op back.errored ∷ []
  pub now : p.moment ≡ at.moment
  pub goes_on : p.state.is_ending ≡ false

-- The command has the connection, which its pool lent it by its ticket.
pub record HasLent (at : At) (back : Back) (s : ServerState) (c : CommandState) : Type 0 where
  pub held : Held
  pub lent : held_of back.conn s.pool.state.lent ≡ Some held
  pub has : c.check_out ≡ Has at.host held.ticket back.conn

-- It is available again: an entry says so.
pub record IsBack (at : At) (back : Back) (old new : Recorded) (t : ServerState) (d : CommandState) : Type 0 where
  pub adds : Adds an_entry old.lists at.moment (entry.CheckedIn at.op at.host back.conn back.errored) (fact.CheckedIn at.op at.host back.conn back.errored) old new
  pub paid : new.point.owed ≡ []
  pub moved : new.point.state ≡ with_both old.point.state at t d

-- It is shut: a second entry says so.
pub record IsShut (at : At) (back : Back) (reason : CloseReason) (old new : Recorded) (t : ServerState) (d : CommandState) : Type 0 where
  pub mid : Recorded
  pub adds : Adds an_entry old.lists at.moment (entry.CheckedIn at.op at.host back.conn back.errored) (fact.CheckedIn at.op at.host back.conn back.errored) old mid
  pub shuts : Adds an_entry mid.lists at.moment (entry.ConnShut at.host back.conn reason) (fact.ConnShut at.host back.conn reason) mid new
  pub paid : new.point.owed ≡ []
  pub moved : new.point.state ≡ with_both old.point.state at t d

abbrev pub ComesBack : At → Back → Fate → Recorded → Recorded → ServerState → CommandState → Type 0
ComesBack at back fate.Kept old new t d = IsBack at back old new t d
ComesBack at back (fate.Shut reason) old new t d = IsShut at back reason old new t d
