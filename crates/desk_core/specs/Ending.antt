-- What the end of a client leaves.
use Rattle.std.specs.Prelude.{◌≡◌, ℕ, true, false, Some, slice_get}
use Rattle.pool_book.specs.Pool.{is_closed}
use Rattle.desk_trail.specs.States.{ClientState, ServerState}

-- The pool of each server that stands in the topology is closed (CMAP, Closing a Connection Pool).
abbrev pub ArePoolsShut : ClientState → Type 0
ArePoolsShut w = (x : ℕ) (s : ServerState) → slice_get w.servers x ≡ Some s → s.has_left ≡ false → is_closed s.pool.state.state ≡ true
