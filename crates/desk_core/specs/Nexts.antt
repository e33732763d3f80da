-- Which command of a lane comes next.
use Rattle.std.specs.Prelude.{◌≡◌, ◌<◌, ℕ, true, false, List, Option, None, Some, slice_get}
use Rattle.cmd_build.specs.declared.command.Command.{Command}
use Rattle.desk_trail.specs.Clients.{Client}
use Rattle.desk_trail.specs.States.{ClientState, CommandState}

-- The command of that number is one of the lane, and whether it was answered is told.
pub record IsOfLane (client : Client) (w : ClientState) (lane op : ℕ) : Type 0 where
  pub command : Command
  pub given : slice_get client.commands op ≡ Some command
  pub lane_is : command.lane ≡ lane
  pub running : CommandState
  pub there : slice_get w.commands op ≡ Some running

-- The commands of the lane ahead of a place are answered.
abbrev pub AreAnsweredAhead : Client → ClientState → (lane place : ℕ) → Type 0
AreAnsweredAhead client w lane place = (k : ℕ) (l : IsOfLane client w lane k) → k < place → l.running.is_finished ≡ true

-- It comes next in its lane: it is not answered, and those of the lane ahead of it are (own: a lane is one thread of an application).
pub record IsNextOf (client : Client) (w : ClientState) (lane op : ℕ) : Type 0 where
  pub of_lane : IsOfLane client w lane op
  pub waits : of_lane.running.is_finished ≡ false
  pub ahead : AreAnsweredAhead client w lane op

-- The lane's next command; none where all of them are answered.
abbrev pub IsNextIn : Client → ClientState → ℕ → Option ℕ → Type 0
IsNextIn client w lane None = (k : ℕ) (l : IsOfLane client w lane k) → l.running.is_finished ≡ true
IsNextIn client w lane (Some op) = IsNextOf client w lane op

-- ---- What only private functions cite

-- So it is of the commands and what was done of each.
abbrev pub AreAnsweredTo : List Command → List CommandState → (lane place : ℕ) → Type 0
AreAnsweredTo commands operations lane place =
    (k : ℕ) (c : Command) (x : CommandState) → k < place → slice_get commands k ≡ Some c → slice_get operations k ≡ Some x → c.lane ≡ lane → x.is_finished ≡ true
