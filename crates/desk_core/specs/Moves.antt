-- What private functions say of a client of which the servers alone change.
use Rattle.std.specs.Prelude.{◌≡◌, List}
use Rattle.desk_trail.specs.States.{ServerState}
use Rattle.legal_trail.specs.Recorded.{Recorded}

-- The client changes in its servers alone, which are these now.
pub record Moves (old new : Recorded) (servers : List ServerState) : Type 0 where
  pub client : new.client ≡ old.client
  pub events : new.lists.events ≡ old.lists.events
  pub requests : new.lists.requests ≡ old.lists.requests
  pub state : new.point.state ≡ record old.point.state { servers = servers }
  pub time : new.point.time ≡ old.point.time
