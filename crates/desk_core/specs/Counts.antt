-- What private functions say of the commands in flight (Server Selection, operationCount).
use Rattle.std.specs.Prelude.{◌≡◌, ◌==◌, ℕ, false, List, Option, length, filter, slice_get, unwrap_or, if◌then◌else◌}
use Rattle.std.specs.Option.{option_map, option_map_or}
use Rattle.desk_trail.specs.Looks.{is_at}
use Rattle.desk_trail.specs.States.{CommandState, Selected}

-- The server that a command chose and at which its attempt goes on.
abbrev pub host_chosen : CommandState → Option ℕ
host_chosen c = option_map (λ (s : Selected). s.host) c.selected

-- How many are in flight at a server; none where the list does not reach it.
abbrev pub count_at : List ℕ → ℕ → ℕ
count_at counts host = unwrap_or (slice_get counts host) 0

-- One where that is the server.
abbrev pub one_at : ℕ → Option ℕ → ℕ
one_at host chosen = if option_map_or (λ (x : ℕ). x == host) chosen false then 1 else 0

-- The counts are those of these commands.
abbrev pub IsCounted : List ℕ → List CommandState → Type 0
IsCounted counts commands = (host : ℕ) → unwrap_or (slice_get counts host) 0 ≡ length (filter (is_at host) commands)
