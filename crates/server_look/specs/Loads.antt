-- How many commands are in flight at an address (own: the refinement).
use Rattle.std.specs.Prelude.{ℕ, List, Option, None, Some, unwrap_or, slice_get}
use Rattle.host_name.specs.Addresses.{Address}
use Rattle.desk_trail.specs.States.{ServerState, number_from}

-- By the number of the server that stands there; none where none does.
abbrev pub count_at : List ℕ → Option ℕ → ℕ
count_at counts None = 0
count_at counts (Some host) = unwrap_or (slice_get counts host) 0

abbrev pub count_by : List ServerState → List ℕ → Address → ℕ
count_by servers counts address = count_at counts (number_from 0 servers address)
