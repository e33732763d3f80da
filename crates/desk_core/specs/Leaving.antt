-- What private functions say of a server that leaves the topology.
use Rattle.std.specs.Prelude.{◌≡◌, ◌⊎◌, ℕ, ◌+◌, List, ◌∷◌, length, slice_set}
use Rattle.pool_book.specs.Entries as pool
use Rattle.desk_trail.specs.Checks.{leaves}
use Rattle.desk_trail.specs.Owed.{Owed}
use Rattle.desk_trail.specs.Owed as owed
use Rattle.desk_trail.specs.States.{ServerState}
use Rattle.legal_trail.specs.Recorded.{Recorded}
use Rattle.server_state.specs.PoolMoves.{behind_group}
use Rattle.wired_trail.specs.declared.stream_use.StreamUse.{StreamUse}
use Rattle.wired_trail.specs.declared.stream_use.StreamUse.TheVariants as for_use
use Rattle.desk_core.specs.Moves.{Moves}
use Rattle.desk_core.specs.Shutting.{is_of_pool}

-- A server that left, and whose pool is closed, with all that this owes.
abbrev pub dropped : ℕ → ServerState → ServerState
dropped moment s = behind_group moment pool.Shut (leaves s)

-- The entries with which a server leaves were written: it is dropped, its pool closed, and each connection that was available shut.
pub record Drops (moment host : ℕ) (s : ServerState) (old new : Recorded) : Type 0 where
  pub moves : Moves old new (slice_set old.point.state.servers host (dropped moment s))
  pub next : (rest : List Owed) → old.point.owed ≡ owed.Dropped host ∷ rest → new.point.owed ≡ rest
  pub at : new.point.moment ≡ moment
  pub lists : new.lists ≡ old.lists
  pub steps : length new.steps ≡ length old.steps + (2 + length s.pool.state.available)
  pub room : old.room.steps ≡ new.room.steps + (2 + length s.pool.state.available)

-- A stream is in use for checks of the server, or for a connection of its pool.
abbrev pub is_of_host : ℕ → StreamUse → Type 0
is_of_host host u = (u ≡ for_use.Check host) ⊎ is_of_pool host u
