-- A reply's cluster time is told (Driver Sessions, Gossipping the cluster time).
use Rattle.std.specs.Prelude.{◌≡◌, ℕ, true, false, Option, None, Some}
use Rattle.desk_trail.specs.declared.entry.Entry.TheVariants as entry
use Rattle.desk_trail.specs.Facts as fact
use Rattle.desk_trail.specs.Legal.{Exceeds, InTime, Point}
use Rattle.desk_trail.specs.Written.{an_entry}
use Rattle.legal_trail.specs.Recorded.{Adds, Recorded}

-- A stamp may be told at that moment: the entry ahead tells a reply, the stamp exceeds the greatest that was seen, and the client's
-- end did not begin.
pub record MayTell (p : Point) (moment stamp : ℕ) : Type 0 where
  pub now : InTime p.owed p.moment moment
  pub goes_on : p.state.is_ending ≡ false
  pub reply : p.is_reply ≡ true
  pub exceeds : Exceeds stamp p.time

-- An entry tells a stamp, where there is one; else the trail is as it was.
abbrev pub TellsTime : ℕ → Option ℕ → Recorded → Recorded → Type 0
TellsTime moment None old new = new ≡ old
TellsTime moment (Some stamp) old new = Adds an_entry old.lists moment (entry.Time stamp) (fact.Time stamp) old new
