-- The host that a text spells (Connection String, Host Information).
use Rattle.std.specs.Prelude.{ℕ, not, ◌||◌, ◌==◌, if◌then◌else◌, List, [], ◌∷◌, ◌++◌, length, Option, None, Some, Result, Ok, Err}
use Rattle.std.specs.Str.{str_to_ascii_lowercase}
use Rattle.std.specs.Str.Parse.{digits_value}
use Rattle.host_name.specs.Addresses.{Address}
use Rattle.host_name.specs.Grammar.{is_in, before, behind, is_bracketed, begins_otherwise, past_first, is_port}
use Rattle.host_name.specs.declared.fault.HostFault.{HostFault}
use Rattle.host_name.specs.declared.fault.HostFault.TheVariants.{Bracket, Empty, Port}

-- The number of a port as it is spelled, none where it is no port; 27017 where it is absent (Connection String, Host
-- Information: the default port).
abbrev pub port_of : Option (List ℕ) → Option ℕ
port_of None = Some 27017
port_of (Some digits) = if is_port digits then Some (digits_value 10 digits) else None

-- The host of that name, A to Z in lower case, and that port; without a port the port is at fault (SDAM: addresses are
-- compared in lower case).
abbrev pub host_of : List ℕ → Option ℕ → Result Address HostFault
host_of name None = Err Port
host_of name (Some port) = Ok (record { name = str_to_ascii_lowercase name; port = port })

-- name or name:port: the name ends at the first colon, and is not empty.
abbrev pub plain_reading : List ℕ → Result Address HostFault
plain_reading text =
    if length (before 58 text) == 0 then Err Empty
    else host_of (before 58 text) (port_of (if is_in 58 text then Some (behind 58 text) else None))

-- [v6] or [v6]:port, of what stands ahead of the opening bracket and what stands behind it: there is a closing one, ']',
-- the text ends there or goes on with a colon, and something stands between the brackets. The name keeps them.
abbrev pub bracketed_reading : List ℕ → List ℕ → Result Address HostFault
bracketed_reading front rest =
    if not (is_in 93 rest) || begins_otherwise (behind 93 rest) then Err Bracket
    else (if length (before 93 rest) == 0 then Err Empty
    else host_of (front ++ 91 ∷ before 93 rest ++ 93 ∷ []) (port_of (past_first (behind 93 rest))))

-- The host that the text spells, or the first fault in the order bracket, empty name, port.
abbrev pub reading : List ℕ → Result Address HostFault
reading text =
    if is_bracketed text then bracketed_reading (before 91 text) (behind 91 text) else plain_reading text
