-- The hosts of a connection string (Connection String, Host Information).
use Rattle.std.specs.Prelude.{ℕ, Bool, not, if◌then◌else◌, List, [], ◌∷◌, ◌++◌, Result, Ok, Err, filter, fold}
use Rattle.std.specs.List.{list_any}
use Rattle.bson_doc.specs.Steps.{◌>>=◌}
use Rattle.host_name.specs.Addresses.{Address, is_same_address}
use Rattle.host_name.specs.Grammar.{is_in}
use Rattle.host_name.specs.Reading.{reading}
use Rattle.host_name.specs.declared.fault.HostFault.{HostFault}
use Rattle.conn_uri.specs.Each.{read_each}
use Rattle.conn_uri.specs.declared.fault.UriFault.{UriFault}
use Rattle.conn_uri.specs.declared.fault.UriFault.TheVariants as fault

-- A host with a slash is the path of a Unix domain socket.
abbrev pub is_path : List ℕ → Bool
is_path host = is_in 47 host

-- A host's fault is one of the string.
abbrev pub as_uri : {A : Type 0} → Result A HostFault → Result A UriFault
as_uri (Ok x) = Ok x
as_uri (Err e) = Err (fault.Host e)

-- The host that a text spells.
abbrev pub host_in : List ℕ → Result Address UriFault
host_in text = as_uri (reading text)

-- One more host goes last, unless it is there.
abbrev pub with_host : List Address → Address → List Address
with_host kept host = if list_any (is_same_address host) kept then kept else kept ++ host ∷ []

-- Each host once, where it comes first.
abbrev pub kept_once : List Address → List Address
kept_once hosts = fold with_host [] hosts

-- The hosts that are no sockets' paths, each once, or the first fault among them.
abbrev pub seeds_in : List (List ℕ) → Result (List Address) UriFault
seeds_in texts = read_each host_in (filter (λ t. not (is_path t)) texts) >>= (λ hosts. Ok (kept_once hosts))
