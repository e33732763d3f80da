-- What is written in a trail while a client runs.
use Rattle.std.specs.Prelude.{◌≡◌, ◌≤◌, ℕ, ◌+◌, List, [], ◌∷◌, ◌++◌}
use Rattle.desk_trail.specs.declared.entry.Entry.{Entry}
use Rattle.desk_trail.specs.declared.room.Room.{Room}
use Rattle.desk_trail.specs.declared.step.Step.{Step}
use Rattle.desk_trail.specs.declared.trail.Trail.{Trail}
use Rattle.desk_trail.specs.Facts.{Lists}

-- The lists whose places entries name, the entries with their moments, and for how many more of each there is room (own).
pub record Written : Type 0 where
  pub lists : Lists
  pub steps : List Step
  pub room : Room

-- Nothing is written yet.
abbrev pub no_lists : Lists
no_lists = record { names = []; events = []; sessions = []; requests = [] }

-- The lists of a whole trail.
abbrev pub lists_of : Trail → Lists
lists_of t = record { names = t.names; events = t.events; sessions = t.sessions; requests = t.requests }

-- Entries of one moment.
abbrev pub step_of : ℕ → Entry → Step
step_of moment e = record { moment = moment; entry = e }

-- The entry behind the others.
abbrev pub with_entry : List Step → ℕ → Entry → List Step
with_entry steps moment e = steps ++ step_of moment e ∷ []

-- Room for no less of anything (own).
pub record IsAtLeast (more room : Room) : Type 0 where
  pub names : more.names ≤ room.names
  pub events : more.events ≤ room.events
  pub sessions : more.sessions ≤ room.sessions
  pub requests : more.requests ≤ room.requests
  pub steps : more.steps ≤ room.steps

-- So much of the room was used (own).
pub record IsUsed (used old new : Room) : Type 0 where
  pub names : old.names ≡ new.names + used.names
  pub events : old.events ≡ new.events + used.events
  pub sessions : old.sessions ≡ new.sessions + used.sessions
  pub requests : old.requests ≡ new.requests + used.requests
  pub steps : old.steps ≡ new.steps + used.steps

-- Room for an entry alone, and for one with what stands at its place (own).
abbrev pub no_room : Room
no_room = record { names = 0; events = 0; sessions = 0; requests = 0; steps = 0 }

abbrev pub an_entry : Room
an_entry = record no_room { steps = 1 }

abbrev pub a_name : Room
a_name = record an_entry { names = 1 }

abbrev pub an_event : Room
an_event = record an_entry { events = 1 }

abbrev pub a_session : Room
a_session = record an_entry { sessions = 1 }

abbrev pub a_request : Room
a_request = record an_entry { requests = 1 }
