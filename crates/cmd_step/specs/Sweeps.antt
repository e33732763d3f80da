-- A pool is swept: each available connection that perished is shut (CMAP, Connection Pool Behaviors: background thread; Checking
-- Out a Connection).
use Rattle.std.specs.Prelude.{◌≡◌, ◌==◌, ◌≤◌, ℕ, ◌+◌, Bool, true, false, [], List, Some, IfSome, length, slice_get, slice_set}
use Rattle.std.specs.List.{list_any}
use Rattle.pool_book.specs.declared.answers.CloseReason.{CloseReason}
use Rattle.pool_book.specs.declared.connections.Available.{Available}
use Rattle.desk_trail.specs.declared.entry.Entry.TheVariants as entry
use Rattle.desk_trail.specs.Facts as fact
use Rattle.desk_trail.specs.States.{ClientState, ServerState, stream_of}
use Rattle.desk_trail.specs.Written.{an_entry}
use Rattle.legal_trail.specs.Recorded.{Adds, Recorded}
use Rattle.wired_trail.specs.Lines.{Lines}
use Rattle.wired_trail.specs.declared.stream_use.StreamUse.{StreamUse}
use Rattle.wired_trail.specs.declared.stream_use.StreamUse.TheVariants as for_use
use Rattle.cmd_step.specs.Closed.{IsUnused}
use Rattle.cmd_step.specs.Free.{IsFree}

-- The client with this server in its place.
abbrev pub with_one : ClientState → ℕ → ServerState → ClientState
with_one w host s = record w { servers = slice_set w.servers host s }

-- A connection of that number is among those that are available.
abbrev pub is_among : ℕ → List Available → Bool
is_among conn xs = list_any (λ a. a.conn == conn) xs

-- A stream is in use for a connection of the host's pool.
abbrev pub IsOfConn : ℕ → StreamUse → Type 0
IsOfConn host u = (conn : ℕ) × (u ≡ for_use.Conn host conn)

-- Of each connection that was available and is not any more the stream is not in use for it (CMAP, Closing a Connection).
abbrev pub AreUnused : ℕ → Lines → ServerState → ServerState → Type 0
AreUnused host lines s t = (conn : ℕ) → is_among conn s.pool.state.available ≡ true → is_among conn t.pool.state.available ≡ false →
    IfSome (stream_of s conn) (λ stream. IsUnused lines stream (for_use.Conn host conn))

-- A trail goes on to another by entries of that moment each of which shuts a connection of the host.
pub data Shuts (host moment : ℕ) (old : Recorded) : Recorded → Type 0 where
  none : Shuts host moment old old
  more : (conn : ℕ) (reason : CloseReason) (mid new : Recorded) → Shuts host moment old mid →
      Adds an_entry mid.lists moment (entry.ConnShut host conn reason) (fact.ConnShut host conn reason) mid new → Shuts host moment old new

-- What stands between two such entries: others may follow, the client has the server as it is, of which nothing must come next, its
-- connections have the streams that they had, and there is room for each connection that is available.
pub record IsSweeping (host moment : ℕ) (old new : Recorded) (s t : ServerState) : Type 0 where
  pub free : IsFree new.point moment
  pub there : slice_get new.point.state.servers host ≡ Some t
  pub idle : t.pool.owed ≡ []
  pub streams : t.conn_streams ≡ s.conn_streams
  pub moved : new.point.state ≡ with_one old.point.state host t
  pub shuts : Shuts host moment old new
  pub room : old.room.steps + length t.pool.state.available ≤ new.room.steps + length s.pool.state.available
