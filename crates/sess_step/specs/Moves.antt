-- What a command does with its session: the entry, and what it leaves (Driver Sessions; Retryable Writes).
use Rattle.std.specs.Prelude.{◌≡◌, ℕ, ℤ, Bool, true, false, List, [], ◌∷◌, ◌++◌, None, Some, All, length, slice_get, slice_set}
use Rattle.bson_doc.specs.declared.ids.Lsid.{Lsid}
use Rattle.entry_judge.specs.Groups.{Goes}
use Rattle.sess_book.specs.Entries.{Drew, Returned, sessions_judge}
use Rattle.sess_book.specs.Sessions.{Sessions, has_minute_left, is_used}
use Rattle.desk_trail.specs.Facts.{Lists}
use Rattle.desk_trail.specs.Facts as fact
use Rattle.desk_trail.specs.Leases.{minutes_needed}
use Rattle.desk_trail.specs.States.{ClientState, CommandState}
use Rattle.desk_trail.specs.Written.{a_session, an_entry}
use Rattle.desk_trail.specs.declared.entry.Entry.TheVariants as entry
use Rattle.desk_trail.specs.declared.room.Room.{Room}
use Rattle.legal_trail.specs.Recorded.{Adds, Recorded}
use Rattle.sess_step.specs.Takes.{IsTaken}
use Rattle.sess_step.specs.declared.command_at.CommandAt.{CommandAt}
use Rattle.sess_step.specs.declared.leasing.LeaseAnswer.{LeaseAnswer}
use Rattle.sess_step.specs.declared.leasing.LeaseAnswer.TheVariants as answer

-- The client with these sessions, and this command in its place.
abbrev pub with_lease : ClientState → ℕ → Sessions → CommandState → ClientState
with_lease w op s c = record w { sessions = s; commands = slice_set w.commands op c }

-- The room that the entry of a lease uses, and the lists behind it: a new session's id is the next one.
abbrev pub lease_room : Bool → Room
lease_room true = a_session
lease_room false = an_entry

abbrev pub lease_lists : Bool → Lsid → Lists → Lists
lease_lists true lsid l = record l { sessions = l.sessions ++ lsid ∷ [] }
lease_lists false lsid l = l

-- The place that the entry of a lease names: the next one where the session is new, else that of its id.
abbrev pub IsNamed : Bool → ℕ → Lsid → List Lsid → Type 0
IsNamed true place lsid ids = place ≡ length ids
IsNamed false place lsid ids = slice_get ids place ≡ Some lsid

-- A command leased a session: one entry says so, and the sessions and the command are as that entry leaves them.
pub record IsLeased (old new : Recorded) (at : CommandAt) (s t : Sessions) (c d : CommandState) (own : Lsid) : Type 0 where
  pub minutes : ℤ
  pub needed : minutes_needed c ≡ Some minutes
  pub place : ℕ
  pub lsid : Lsid
  pub fresh : Bool
  pub taken : IsTaken s at.moment minutes own place lsid fresh t
  pub adds :
      Adds (lease_room fresh) (lease_lists fresh lsid old.lists) at.moment (entry.Leased at.op place fresh) (fact.Leased at.op place lsid fresh) old new
  pub holds : d ≡ record c { session = Some place }
  pub moved : new.point.state ≡ with_lease old.point.state at.op t d

-- A command that needs a session finds none, by the id that a new one would have: of those that were given back none has a minute left,
-- and one was made with that id before.
pub record IsRepeated (s : Sessions) (moment : ℕ) (c : CommandState) (own : Lsid) : Type 0 where
  pub minutes : ℤ
  pub needed : minutes_needed c ≡ Some minutes
  pub used : is_used own s.made ≡ true
  pub spent : All (λ k. has_minute_left minutes moment k ≡ false) s.kept

-- By the answer: it leased one; or it found none, by the id of the words, and nothing changed.
abbrev pub Leases : Recorded → Recorded → CommandAt → Sessions → Sessions → CommandState → CommandState → Lsid → LeaseAnswer → Type 0
Leases old new at s t c d own answer.Leased = IsLeased old new at s t c d own
Leases old new at s t c d own (answer.Repeated repeated) =
    (repeated ≡ own) × IsRepeated s at.moment c own × (new ≡ old) × (t ≡ s) × (d ≡ c)

-- A command drew a number from its session.
pub record IsDrawn (old new : Recorded) (at : CommandAt) (s t : Sessions) (c d : CommandState) : Type 0 where
  pub place : ℕ
  pub has : c.session ≡ Some place
  pub number : ℤ
  pub goes : Goes sessions_judge s at.moment (Drew place number) t
  pub adds : Adds an_entry old.lists at.moment (entry.Drew at.op number) (fact.Drew at.op number) old new
  pub keeps : d ≡ record c { number = Some number }
  pub moved : new.point.state ≡ with_lease old.point.state at.op t d

-- A command gave its session back, dirty as it says, and nothing must follow.
pub record IsReturned (old new : Recorded) (at : CommandAt) (s t : Sessions) (c d : CommandState) : Type 0 where
  pub place : ℕ
  pub has : c.session ≡ Some place
  pub kept : Bool
  pub goes : Goes sessions_judge s at.moment (Returned place c.is_dirty kept) t
  pub adds : Adds an_entry old.lists at.moment (entry.Returned at.op c.is_dirty kept) (fact.Returned at.op c.is_dirty kept) old new
  pub left : d ≡ record c { session = None }
  pub moved : new.point.state ≡ with_lease old.point.state at.op t d
  pub paid : new.point.owed ≡ []
