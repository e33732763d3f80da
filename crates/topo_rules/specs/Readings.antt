-- What is read off a topology: the session timeout and the servers that this client does not fit.
use Rattle.std.specs.Prelude.{ℤ, Bool, ◌&&◌, ◌||◌, List, [], ◌∷◌, map, filter, fold, find, Option, None, Some, pos, int_lt, if◌then◌else◌}
use Rattle.std.specs.Int.{int_min}
use Rattle.std.specs.FinMap as map
use Rattle.hello_reply.specs.declared.server_description.ServerDescription.{ServerDescription}
use Rattle.topo_rules.specs.Kinds.{is_known, bears_data}
use Rattle.topo_rules.specs.Maps.{ServerMap}

-- The lesser of two numbers of minutes, none where one is none.
abbrev pub lesser : Option ℤ → Option ℤ → Option ℤ
lesser (Some a) (Some b) = Some (int_min a b)
lesser _ _ = None

-- The least of the numbers, none where one is none or there are none.
abbrev pub least : List (Option ℤ) → Option ℤ
least [] = None
least (x ∷ xs) = fold lesser x xs

-- The server's own timeout.
abbrev pub minutes_of : ServerDescription → Option ℤ
minutes_of d = d.session_minutes

-- logicalSessionTimeoutMinutes of a topology: the least over its data-bearing servers, none where one has none or there
-- are no such servers (SDAM, logicalSessionTimeoutMinutes; Driver Sessions).
abbrev pub session_minutes_of : ServerMap → Option ℤ
session_minutes_of m = least (map minutes_of (filter bears_data (map.values m)))

-- The least of the timeouts that were met and that of one more server, none where no data-bearing server was met.
abbrev pub lowered : Option (Option ℤ) → ServerDescription → Option (Option ℤ)
lowered None d = if bears_data d then Some (minutes_of d) else None
lowered (Some x) d = if bears_data d then Some (lesser x (minutes_of d)) else Some x

-- A known server whose wire versions are all above 25 or all below 13, those that this client speaks (SDAM, Checking wire
-- protocol compatibility; own: 13 and 25).
abbrev pub is_misfit : ServerDescription → Bool
is_misfit d = is_known d && (int_lt (pos 25) d.min_wire || int_lt d.max_wire (pos 13))

-- The misfit of the least host.
abbrev pub misfit_of : ServerMap → Option ServerDescription
misfit_of m = find is_misfit (map.values m)
