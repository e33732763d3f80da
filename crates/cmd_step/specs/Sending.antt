-- A command's request is queued, or the command is too large (MongoDB wire protocol; CRUD; MongoDB, Limits).
use Rattle.std.specs.Prelude.{◌≡◌, ℕ, ◌+◌, length}
use Rattle.write_retry.specs.declared.events.Unsent.{Unsent}
use Rattle.write_retry.specs.declared.events.Unsent.TheVariants as unsent
use Rattle.desk_trail.specs.declared.request.Purpose.TheVariants as purpose
use Rattle.desk_trail.specs.declared.request.Request.{Request}
use Rattle.desk_trail.specs.Requests.{IsRequestOf, IsTooLarge, id_at}
use Rattle.desk_trail.specs.States.{ClientState, CommandState}
use Rattle.legal_trail.specs.Recorded.{Recorded}
use Rattle.cmd_step.specs.Ends.{with_it}

-- The client with this command in its place, and a request more.
abbrev pub with_request : ClientState → ℕ → CommandState → ClientState
with_request w op c = record (with_it w op c) { requests = w.requests + 1 }

-- A request is the next one, and that command's.
pub record IsNextOf (r : Recorded) (op : ℕ) (request : Request) : Type 0 where
  pub counted : r.point.state.requests ≡ length r.lists.requests
  pub id : request.id ≡ id_at (length r.lists.requests)
  pub is_for : request.purpose ≡ purpose.Command op
  pub is_of : IsRequestOf r.client r.point.state r.point.time op request

-- That command is too large, by these sizes.
abbrev pub IsOver : Recorded → ℕ → Unsent → Type 0
IsOver r op (unsent.TooLarge size most) = IsTooLarge r.client r.point.state r.point.time op size most
IsOver r op _ = ⊥
