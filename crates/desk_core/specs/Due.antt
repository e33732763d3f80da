-- Whose check comes next.
use Rattle.std.specs.Prelude.{◌≡◌, ◌≤◌, ℕ, Bool, true, false, Option, None, Some, is_some, nat_lt, slice_get, if◌then◌else◌}
use Rattle.desk_trail.specs.States.{ClientState, ServerState}
use Rattle.desk_core.specs.declared.sight.Due.{Due}

-- When a server's check is due, where the last step was made at a moment: one that runs is due then (own).
abbrev pub due_at : ℕ → ServerState → ℕ
due_at last s = if is_some s.checks.began then last else s.checks.due

-- A server stands in the topology, and that is when its check is due.
pub record IsDueAt (w : ClientState) (last host at : ℕ) : Type 0 where
  pub server : ServerState
  pub there : slice_get w.servers host ≡ Some server
  pub stays : server.has_left ≡ false
  pub moment : at ≡ due_at last server

-- A check comes next: it is due no later than any other, and of those that are due with it its server has the least number.
pub record IsNextDue (w : ClientState) (last : ℕ) (due : Due) : Type 0 where
  pub of_server : IsDueAt w last due.host due.at
  pub first : (host at : ℕ) → IsDueAt w last host at → due.at ≤ at
  pub least : (host : ℕ) → IsDueAt w last host due.at → due.host ≤ host

-- The check that comes next; none where no server stands in the topology.
abbrev pub IsNext : ClientState → ℕ → Option Due → Type 0
IsNext w last None = (host at : ℕ) → IsDueAt w last host at → ⊥
IsNext w last (Some due) = IsNextDue w last due

-- ---- What only private functions cite

-- A moment is earlier than that of the earliest check so far.
abbrev pub is_earlier : ℕ → Option Due → Bool
is_earlier at None = true
is_earlier at (Some due) = nat_lt at due.at

-- The earlier of the earliest check so far and that of one more server; of two at one moment the former.
abbrev pub nearer : ℕ → ℕ → ServerState → Option Due → Option Due
nearer last host s earliest =
    if s.has_left then earliest
    else if is_earlier (due_at last s) earliest then Some (record { host = host; at = due_at last s }) else earliest
