-- What a desk keeps between two steps (own: the refinement).
use Rattle.std.specs.Prelude.{◌≡◌, ◌≤◌, ℕ, Bool, false, List, [], length}
use Rattle.sess_book.specs.Sessions.{Sessions}
use Rattle.desk_trail.specs.States.{CommandState}
use Rattle.legal_trail.specs.Recorded.{Recorded}
use Rattle.sess_step.specs.Choices.{AreIds}
use Rattle.desk_core.specs.Commands.{IsShallow}
use Rattle.desk_core.specs.Counts.{IsCounted}

-- Nothing must come next; the client's commands and sessions are those that the desk has, with the sessions' ids, the last of which
-- was leased or given back no later than the last step; and so many commands are in flight as it counts.
pub record IsRunning (trail : Recorded) (commands : List CommandState) (counts : List ℕ) (sessions : Sessions) (last : ℕ) : Type 0 where
  pub paid : trail.point.owed ≡ []
  pub has : trail.point.state.commands ≡ commands
  pub counted : IsCounted counts commands
  pub book : trail.point.state.sessions ≡ sessions
  pub ids : AreIds trail.lists.sessions sessions
  pub late : sessions.last ≤ last

-- So it is unless the desk stopped; and the documents of the commands that it was given are no deeper than a message may have.
pub record IsDesk (trail : Recorded) (commands : List CommandState) (counts : List ℕ) (sessions : Sessions) (last : ℕ) (stopped : Bool) : Type 0 where
  pub runs : stopped ≡ false → IsRunning trail commands counts sessions last
  pub levels : (op : ℕ) → IsShallow trail.client op
  pub given : length commands ≡ length trail.client.commands
  pub few : length commands ≤ 16777216
