-- The requests of a stream, as a trail has them.
-- own: a trail's side of what members see of a client, so that it can be said how often a write takes effect.
use Rattle.std.specs.Prelude.{◌≡◌, ℕ, Bool, false, List, [], ◌∷◌, ◌++◌, Option, None, Some, map, slice_get}
use Rattle.std.specs.Option.{option_map_or}
use Rattle.entry_judge.specs.declared.timed.Timed.{Timed}
use Rattle.cmd_build.specs.Ops.{writes}
use Rattle.cmd_build.specs.declared.command.Command.{Command}
use Rattle.desk_trail.specs.declared.request.Purpose.{Purpose}
use Rattle.desk_trail.specs.declared.request.Purpose.TheVariants as purpose
use Rattle.desk_trail.specs.declared.request.Request.{Request}
use Rattle.desk_trail.specs.Clients.{Client}
use Rattle.desk_trail.specs.Facts.{Fact}
use Rattle.desk_trail.specs.Streams.{Account, account}

-- The one that waits for its answer, or got none.
abbrev pub last_of : Option Request → List Request
last_of None = []
last_of (Some r) = r ∷ []

-- In order: those that were answered, and the one behind them.
abbrev pub requests_in : Account → List Request
requests_in a = map (λ x. x.request) a.answered ++ last_of a.last

-- Those that entries say were asked on a stream.
abbrev pub requests_on : Client → List (Timed Fact) → ℕ → List Request
requests_on client facts stream = requests_in (account client stream facts)

-- A request of the command of that number is the one of that number on the stream, counted from 0.
pub record IsAttempt (client : Client) (facts : List (Timed Fact)) (op stream nth : ℕ) (r : Request) : Type 0 where
  pub there : slice_get (requests_on client facts stream) nth ≡ Some r
  pub is_for : r.purpose ≡ purpose.Command op

-- A command of the client that may change data (CRUD, write operations); none where there is no command.
abbrev pub writes_at : Client → ℕ → Bool
writes_at client op = option_map_or (λ (c : Command). writes c.act) (slice_get client.commands op) false

-- A request is one of a command that may change data.
abbrev pub is_of_write : Client → Purpose → Bool
is_of_write client (purpose.Command op) = writes_at client op
is_of_write client (purpose.Check host) = false
is_of_write client (purpose.Greeting host conn) = false
is_of_write client purpose.Farewell = false
