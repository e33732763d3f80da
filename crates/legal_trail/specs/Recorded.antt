-- What a client did so far, and where it leads.
use Rattle.std.specs.Prelude.{◌≡◌, ℕ, List, [], ◌∷◌, ◌++◌}
use Rattle.entry_judge.specs.declared.timed.Timed.{Timed}
use Rattle.desk_trail.specs.declared.entry.Entry.{Entry}
use Rattle.desk_trail.specs.declared.room.Room.{Room}
use Rattle.desk_trail.specs.declared.step.Step.{Step}
use Rattle.desk_trail.specs.Clients.{Client}
use Rattle.desk_trail.specs.Facts.{Fact, Lists, facts_of}
use Rattle.desk_trail.specs.Legal.{Point, point_after, point_behind}
use Rattle.desk_trail.specs.Written.{IsUsed, Written, with_entry}

-- A client's trail so far: what the client was given, the lists whose places entries name, the entries, for how many more there
-- is room, and the point behind the entries (own).
pub record Recorded : Type 0 where
  pub client : Client
  pub lists : Lists
  pub steps : List Step
  pub room : Room
  pub point : Point

-- What is written, as the trail of a client: it leads to the point behind what its entries tell.
abbrev pub recorded : Client → Written → Recorded
recorded client written = record {
  client = client;
  lists = written.lists;
  steps = written.steps;
  room = written.room;
  point = point_behind client (facts_of written.lists written.steps);
}

-- What its entries tell.
abbrev pub told_in : Recorded → List (Timed Fact)
told_in r = facts_of r.lists r.steps

-- An entry of that moment, which tells that fact, came behind the others, which lead to the old point; the lists are those behind
-- it; and the point is the one to which the fact leads.
pub record Adds (used : Room) (lists : Lists) (moment : ℕ) (entry : Entry) (told : Fact) (old new : Recorded) : Type 0 where
  pub same_client : new.client ≡ old.client
  pub lists_now : new.lists ≡ lists
  pub steps_now : new.steps ≡ with_entry old.steps moment entry
  pub room_used : IsUsed used old.room new.room
  pub point_was : old.point ≡ point_behind old.client (told_in old)
  pub point_now : new.point ≡ point_after old.client old.point (record { at = moment; what = told })
  pub told_now : told_in new ≡ told_in old ++ record { at = moment; what = told } ∷ []
