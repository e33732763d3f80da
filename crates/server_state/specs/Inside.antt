-- What a server keeps (own: the refinement).
use Rattle.std.specs.Prelude.{◌≡◌, ◌≤◌, ℕ, ◌+◌, Bool, true, false, List, [], ◌∷◌, length, Option, None, Some, vec_capacity}
use Rattle.entry_judge.specs.Groups.{nothing_owed}
use Rattle.watch_step.specs.Checks.{Checks}
use Rattle.desk_trail.specs.States.{ConnStream, ServerState}
use Rattle.server_state.specs.declared.server.Server.TheInside.{Inside}

-- The checks of a server that left: none runs any more.
abbrev pub halted : Bool → Checks → Checks
halted true c = record c { began = None }
halted false c = c

-- The stream of a connection ahead of those that are kept; a dial that failed has none.
abbrev pub with_stream : ℕ → Option ℕ → List ConnStream → List ConnStream
with_stream conn None kept = kept
with_stream conn (Some stream) kept = record { conn = conn; stream = stream } ∷ kept

-- The streams of the connections of the numbers from one on, one after another, ahead of those that are kept: so the latest stands
-- first.
abbrev pub streams_from : ℕ → List (Option ℕ) → List ConnStream → List ConnStream
streams_from conn [] kept = kept
streams_from conn (o ∷ os) kept = streams_from (conn + 1) os (with_stream conn o kept)

-- The server that the fields stand for: connections are numbered from 1, and each that was dialled has its place.
abbrev pub state_of : Inside → ServerState
state_of s = record {
  address = s.host;
  named = s.named;
  has_left = s.has_left;
  pool = nothing_owed s.pool;
  checks = halted s.has_left s.watch;
  check_stream = s.check_stream;
  dry = s.dry;
  conn_streams = streams_from 1 s.streams.items [];
}

-- Each connection that was dialled has its place, and there is one more for each ticket that waits.
pub record IsKept (s : Inside) : Type 0 where
  pub dialled : length s.streams.items ≡ s.pool.dialled
  pub waiting : length s.pool.waiting ≤ s.waits
  pub room : s.waits + length s.streams.items ≤ vec_capacity s.streams
