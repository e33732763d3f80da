-- What the laws on the order of entries speak of.
use Rattle.std.specs.Prelude.{◌≡◌, ◌⊎◌, ℕ, ◌==◌, Bool, true, false, List, [], ◌∷◌, length, take}
use Rattle.desk_trail.specs.declared.request.Purpose.{Purpose}
use Rattle.desk_trail.specs.declared.request.Purpose.TheVariants as purpose
use Rattle.desk_trail.specs.Facts.{Fact, Lists}
use Rattle.desk_trail.specs.Facts as fact
use Rattle.desk_trail.specs.Owed.{IsOwed, Owed}

-- Lists begin with other ones: names, events, sessions and requests came to them behind (own: a trail's lists only grow).
pub record Extends (old new : Lists) : Type 0 where
  pub names : take (length old.names) new.names ≡ old.names
  pub events : take (length old.events) new.events ≡ old.events
  pub sessions : take (length old.sessions) new.sessions ≡ old.sessions
  pub requests : take (length old.requests) new.requests ≡ old.requests

-- An entry tells a cluster time, which may stand between an entry and what it owes (Driver Sessions, Gossipping the cluster
-- time).
abbrev pub is_time : Fact → Bool
is_time (fact.Time stamp) = true
is_time f = false

-- The entries that are owed stand among these, in their order (own: what an entry owes comes at once).
abbrev pub ArePaid : List Owed → List Fact → Type 0
ArePaid [] fs = Unit {0}
ArePaid (d ∷ ds) [] = ⊥
ArePaid (d ∷ ds) (f ∷ fs) = (IsOwed d f × ArePaid ds fs) ⊎ ArePaid (d ∷ ds) fs

-- A request is an attempt's of that command.
abbrev pub asks_for : ℕ → Purpose → Bool
asks_for op (purpose.Command k) = k == op
asks_for op (purpose.Check host) = false
asks_for op (purpose.Greeting host conn) = false
asks_for op purpose.Farewell = false

-- An entry is of that command, and not the return of its session.
abbrev pub is_of : ℕ → Fact → Bool
is_of op (fact.Looked k a b kept picked) = k == op
is_of op (fact.Entered k host ticket) = k == op
is_of op (fact.Lent k host conn) = k == op
is_of op (fact.Dialled k host conn stream) = k == op
is_of op (fact.Settled k host conn stale) = k == op
is_of op (fact.NotLent k host why) = k == op
is_of op (fact.CheckedIn k host conn errored) = k == op
is_of op (fact.Leased k place lsid fresh) = k == op
is_of op (fact.Drew k number) = k == op
is_of op (fact.Asked place request) = asks_for op request.purpose
is_of op (fact.Ended k end) = k == op
is_of op (fact.Finished k outcome) = k == op
is_of op f = false
