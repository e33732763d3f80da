-- What private functions say of checks beside the trail: which stay as they were, and what a check that ended left.
use Rattle.std.specs.Prelude.{◌≡◌, ◌⊎◌, ℕ, false, Some, slice_get}
use Rattle.desk_trail.specs.Checks.{AtServer, Runs, is_known_at}
use Rattle.desk_trail.specs.States.{ClientState, ServerState}
use Rattle.desk_core.specs.Sights.{IsAtRest}

-- A server has the address that it had; and where it stands in the topology, it stood there, and its checks are as they were.
pub record HasSameChecks (old new : ServerState) : Type 0 where
  pub address : new.address ≡ old.address
  pub stood : new.has_left ≡ false → old.has_left ≡ false
  pub checks : new.has_left ≡ false → new.checks ≡ old.checks

-- The topology is as it was, and so are the checks of each server that was there and stands in it still.
pub record KeepsChecks (old new : ClientState) : Type 0 where
  pub topology : new.topology ≡ old.topology
  pub servers : (x : ℕ) (s : ServerState) → slice_get old.servers x ≡ Some s → (t : ServerState) × (slice_get new.servers x ≡ Some t) × HasSameChecks s t

-- No check of the server is due or runs, or the topology does not know the server.
abbrev pub IsAtRestOrUnknown : ClientState → (moment host : ℕ) → Type 0
IsAtRestOrUnknown w moment host = IsAtRest w moment host ⊎ (is_known_at w host ≡ false)

-- A check of the server runs, and the topology knows the server as it did.
pub record HasBegun (old new : ClientState) (host : ℕ) : Type 0 where
  pub runs : AtServer new host (λ s. (began : ℕ) × Runs began s)
  pub known : is_known_at new host ≡ is_known_at old host

-- A check of the server is at its end, if one was due or ran: none is due or runs now, but for one that follows at once since
-- the topology knew the server, which it does not now.
pub record HasEnded (old new : ClientState) (moment host : ℕ) : Type 0 where
  pub rests : IsAtRestOrUnknown new moment host
  pub alone : IsAtRestOrUnknown old moment host → IsAtRest new moment host
