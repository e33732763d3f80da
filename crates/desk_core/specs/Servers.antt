-- The servers of a desk (own: what is kept of each).
use Rattle.std.specs.Prelude.{◌≡◌, ◌<◌, ℕ, ◌+◌, false, List, [], ◌∷◌, length, Option, None, Some, slice_get, if◌then◌else◌}
use Rattle.host_name.specs.Addresses.{Address, is_same_address}
use Rattle.pool_book.specs.Pool.{is_closed}
use Rattle.wired_trail.specs.Lines.{Lines, line_at}
use Rattle.wired_trail.specs.declared.lines.Line.{Line}
use Rattle.wired_trail.specs.declared.stream_use.StreamUse.TheVariants as for_use
use Rattle.desk_trail.specs.States.{ClientState, ServerState, number_of}

-- How many entries closing a server's pool takes, while the server stands in the topology: one of the pool, and one for each
-- connection that is available (CMAP, Closing a Connection Pool).
abbrev pub closing_of : ServerState → ℕ
closing_of s = if s.has_left then 0 else length s.pool.state.available + 1

-- How many closing the pools of all of these takes.
abbrev pub closings : List ServerState → ℕ
closings [] = 0
closings (s ∷ ss) = closing_of s + closings ss

-- The stream of a server's checks is in use for them, and is there while a check runs; between two checks all that was queued on
-- it is sent.
abbrev pub HasStream : Lines → ℕ → Option ℕ → Option ℕ → Type 0
HasStream lines x began None = began ≡ None
HasStream lines x began (Some stream) =
    (line : Line) × (line_at lines stream ≡ Some line) × (line.is_for ≡ for_use.Check x) × (began ≡ None → line.wire.unsent ≡ [])

-- What is kept of each server, by its number: nothing must come next of its pool, which is open while the server stands in the
-- topology; its generation, and how many tickets entered it, are less than the entries of the trail; its checks have their stream,
-- and some time between two of them.
pub record IsKeptServer (lines : Lines) (entries x : ℕ) (s : ServerState) : Type 0 where
  pub paid : s.pool.owed ≡ []
  pub is_open : s.has_left ≡ false → is_closed s.pool.state.state ≡ false
  pub generation : s.pool.state.generation < entries
  pub entered : s.pool.state.entered < entries
  pub checked : HasStream lines x s.checks.began s.check_stream
  pub paced : 0 < s.checks.beat

abbrev pub AreKeptServers : Lines → ℕ → List ServerState → Type 0
AreKeptServers lines entries servers = (x : ℕ) (s : ServerState) → slice_get servers x ≡ Some s → IsKeptServer lines entries x s

-- An address has the number that it had, and what stands at that number is as it was.
pub record IsUntouched (old new : ClientState) (address : Address) : Type 0 where
  pub number : number_of new address ≡ number_of old address
  pub server : (x : ℕ) → number_of old address ≡ Some x → slice_get new.servers x ≡ slice_get old.servers x

-- So is every other address than that one.
abbrev pub TouchesOnly : Address → ClientState → ClientState → Type 0
TouchesOnly address old new = (a : Address) → is_same_address address a ≡ false → IsUntouched old new a
