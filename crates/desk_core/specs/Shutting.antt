-- What private functions say of a pool that is closed: the connections that were available in it are shut, one after another.
use Rattle.std.specs.Prelude.{◌≡◌, ◌⊎◌, ℕ, ◌+◌, List, [], ◌++◌, Some, length, map, slice_set}
use Rattle.pool_book.specs.Entries as pool
use Rattle.pool_book.specs.Entries.{PoolEntry}
use Rattle.pool_book.specs.declared.answers.CloseReason.TheVariants.{PoolClosed}
use Rattle.pool_book.specs.declared.connections.Available.{Available}
use Rattle.desk_trail.specs.Owed.{Owed}
use Rattle.desk_trail.specs.Owed as owed
use Rattle.desk_trail.specs.States.{ServerState}
use Rattle.legal_trail.specs.Recorded.{Recorded}
use Rattle.wired_trail.specs.Lines.{Lines, line_at}
use Rattle.wired_trail.specs.declared.lines.Line.{Line}
use Rattle.wired_trail.specs.declared.stream_use.StreamUse.{StreamUse}
use Rattle.wired_trail.specs.declared.stream_use.StreamUse.TheVariants as for_use
use Rattle.desk_core.specs.Moves.{Moves}

-- The entries of the pool that shut these connections, and what must come next of the trail for them.
abbrev pub pool_shuts : List Available → List PoolEntry
pool_shuts conns = map (λ a. pool.ConnShut a.conn PoolClosed) conns

abbrev pub owed_shuts : ℕ → List Available → List Owed
owed_shuts host conns = map (λ a. owed.OfPool host) conns

-- A server whose pool owes that these connections are shut.
abbrev pub owing : List Available → ServerState → ServerState
owing conns s = record s { pool = record { state = s.pool.state; owed = pool_shuts conns } }

-- The connections of the list were shut, at that moment, as its server's pool owed: all that is left of it is that the pool owes them no
-- more.
pub record Shuts (moment host : ℕ) (conns : List Available) (s : ServerState) (old new : Recorded) : Type 0 where
  pub moves : Moves old new (slice_set old.point.state.servers host (owing [] s))
  pub next : (rest : List Owed) → old.point.owed ≡ owed_shuts host conns ++ rest → new.point.owed ≡ rest
  pub at : new.point.moment ≡ moment
  pub lists : new.lists ≡ old.lists
  pub steps : length new.steps ≡ length old.steps + length conns
  pub room : old.room.steps ≡ new.room.steps + length conns

-- A stream is in use for a connection of the host's pool.
abbrev pub is_of_pool : ℕ → StreamUse → Type 0
is_of_pool host u = (conn : ℕ) × (u ≡ for_use.Conn host conn)

-- The lines of streams in other uses are as they were; those of that use may be gone.
abbrev pub KeepsUses : (StreamUse → Type 0) → Lines → Lines → Type 0
KeepsUses Of old new = (stream : ℕ) → (line_at new stream ≡ line_at old stream) ⊎ ((line : Line) × (line_at old stream ≡ Some line) × Of line.is_for)
