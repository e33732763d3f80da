-- What a look goes by, and what it comes to (Server Selection).
use Rattle.std.specs.Prelude.{◌≡◌, ◌≤◌, ℕ, ◌+◌, Bool, false, List, Some, IsSome, slice_get, unwrap_or}
use Rattle.std.specs.FinMap as map
use Rattle.std.specs.Option.{option_and_then}
use Rattle.host_name.specs.Addresses.{Address}
use Rattle.cmd_build.specs.declared.command.Act.{Act}
use Rattle.conn_uri.specs.Configurations.{Configuration}
use Rattle.server_pick.specs.Candidates.{candidates}
use Rattle.server_pick.specs.Runs.{Runs}
use Rattle.server_pick.specs.declared.candidate.Candidate.{Candidate}
use Rattle.server_pick.specs.declared.criteria.Criteria.{Criteria}
use Rattle.topo_rules.specs.Maps.{ServerMap}
use Rattle.desk_trail.specs.declared.entry.LookedHow.{LookedHow}
use Rattle.desk_trail.specs.declared.entry.LookedHow.TheVariants as looked
use Rattle.desk_trail.specs.Checks.{IsCheckedFor}
use Rattle.desk_trail.specs.Clients.{Client, micros}
use Rattle.desk_trail.specs.Looks.{AreNumbersOf, IsAskedBy, first_look, hosts_known, in_flight, load_of}
use Rattle.desk_trail.specs.States.{ClientState, CommandState, ServerState, number_from}
use Rattle.server_look.specs.declared.input.Input.{Input}
use Rattle.server_look.specs.declared.input.Asking.{Asking}

-- A look goes by a client: its settings, its topology, its servers by number, and how many commands are in flight at each, none
-- where nothing is told of it (Server Selection, operationCount).
pub record IsOf (client : Client) (w : ClientState) (input : Input) : Type 0 where
  pub settings : client.settings ≡ input.settings.now
  pub topology : w.topology ≡ input.topology.now
  pub servers : w.servers ≡ input.servers.now
  pub counts : (host : ℕ) → unwrap_or (slice_get input.in_flight.now host) 0 ≡ in_flight w (Some host)

-- It is a look of the client's command of that number.
pub record IsBy (client : Client) (w : ClientState) (op : ℕ) (asking : Asking) : Type 0 where
  pub given : slice_get client.commands op ≡ Some asking.command.now
  pub there : slice_get w.commands op ≡ Some asking.running.now

-- Each server of the topology stands among the servers that were named (SDAM, TopologyDescription: servers).
abbrev pub AreNamed : ServerMap → List ServerState → Type 0
AreNamed m servers = (address : Address) → IsSome (map.get m address) → IsSome (number_from 0 servers address)

-- At or past its deadline a selection looks only once every server of the topology was checked for it, so that it does not fail
-- sooner (Server Selection, serverSelectionTimeoutMS).
abbrev pub deadline_by : Configuration → CommandState → ℕ → ℕ
deadline_by settings c moment = first_look c moment + micros settings.select_ms

abbrev pub IsTimely : Configuration → List ServerState → CommandState → ℕ → Type 0
IsTimely settings servers c moment =
    deadline_by settings c moment ≤ moment → (host : ℕ) (s : ServerState) → slice_get servers host ≡ Some s → s.has_left ≡ false
    → IsCheckedFor moment (first_look c moment) (deadline_by settings c moment) (hosts_known c) host s

-- The topology has a description of the server that a look names.
abbrev pub HasDescription : ServerMap → List ServerState → ℕ → Type 0
HasDescription m servers host = IsSome (option_and_then (λ (s : ServerState). map.get m s.address) (slice_get servers host))

abbrev pub IsDescribed : ServerMap → List ServerState → LookedHow → Type 0
IsDescribed m servers (looked.Chosen host) = HasDescription m servers host
IsDescribed m servers (looked.Incompatible host) = HasDescription m servers host
IsDescribed m servers how = Unit {0}

-- The servers that were kept are those that the picker allowed, asked of each candidate once, in the order of hosts (Server
-- Selection, serverSelector).
pub record IsRunBy {P : Type 0} (allows : P → Candidate → Bool) (follows : P → Candidate → P → Type 0)
    (client : Client) (w : ClientState) (act : Act) (c : CommandState) (old : P) (kept : List ℕ) (new : P) : Type 0 where
  pub criteria : Criteria
  pub asks : IsAskedBy client w act c criteria
  pub addresses : List Address
  pub numbers : AreNumbersOf w kept addresses
  pub run : Runs allows follows old (candidates w.topology criteria (load_of w)) addresses new
