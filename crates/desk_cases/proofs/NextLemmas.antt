-- A command that comes next in its lane is there, and not answered.
use Rattle.std.proofs.Common.{◌≡◌, ℕ, false}
use Rattle.desk_trail.specs.Attempts.{AtCommand}
use Rattle.desk_trail.specs.Clients.{Client}
use Rattle.desk_trail.specs.States.{ClientState}
use Rattle.desk_core.specs.Nexts.{IsNextOf}

pub next_is_there : (client : Client) (w : ClientState) (lane op : ℕ) → IsNextOf client w lane op → AtCommand w op (λ c. c.is_finished ≡ false)
next_is_there client w lane op n = (n.of_lane.running, n.of_lane.there, n.waits)
