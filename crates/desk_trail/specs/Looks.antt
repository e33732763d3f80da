-- A command's looks for a server (Server Selection).
use Rattle.std.specs.Prelude.{◌≡◌, ◌≤◌, ◌<◌, ◌⊎◌, ℕ, ◌+◌, ◌==◌, Bool, true, false, not, ◌&&◌, List, [], ◌∷◌, Option, None, Some, map, filter, length, is_some, slice_get}
use Rattle.std.specs.Option.{option_map_or, option_and_then, option_copied}
use Rattle.host_name.specs.Addresses.{Address}
use Rattle.hello_reply.specs.declared.server_kind.ServerKind.{ServerKind}
use Rattle.hello_reply.specs.declared.server_kind.ServerKind.TheVariants as server_kind
use Rattle.hello_reply.specs.declared.server_description.ServerDescription.{ServerDescription}
use Rattle.read_pref.specs.Preferences.{Preference}
use Rattle.topo_rules.specs.Readings.{session_minutes_of}
use Rattle.cmd_build.specs.Commands.{own_preference}
use Rattle.cmd_build.specs.Ops.{writes}
use Rattle.cmd_build.specs.declared.command.Act.{Act}
use Rattle.cmd_build.specs.declared.command.Command.{Command}
use Rattle.server_pick.specs.Candidates.{candidates}
use Rattle.server_pick.specs.Picks.{picks}
use Rattle.server_pick.specs.declared.criteria.Criteria.{Criteria}
use Rattle.server_pick.specs.declared.criteria.Need.{Need}
use Rattle.server_pick.specs.declared.criteria.Need.TheVariants as need
use Rattle.server_pick.specs.declared.picked.Picked.{Picked}
use Rattle.server_pick.specs.declared.picked.Picked.TheVariants as picked
use Rattle.desk_trail.specs.declared.entry.LookedHow.{LookedHow}
use Rattle.desk_trail.specs.declared.entry.LookedHow.TheVariants as looked
use Rattle.desk_trail.specs.Clients.{Client, select_limit, threshold}
use Rattle.desk_trail.specs.States.{ClientState, Selected, Selection, CommandState, number_of, address_of, description_of, with_command}
use Rattle.desk_trail.specs.Checks.{AreChecked, all_asked, due_from}
use Rattle.desk_trail.specs.Owed.{Owed}

-- ---- What a look goes by

-- How many commands are in flight at a server: those that chose it and whose attempt goes on (Server Selection,
-- operationCount).
abbrev pub is_at : ℕ → CommandState → Bool
is_at host c = option_map_or (λ (selected : Selected). selected.host == host) c.selected false

abbrev pub in_flight : ClientState → Option ℕ → ℕ
in_flight w None = 0
in_flight w (Some host) = length (filter (is_at host) w.commands)

abbrev pub load_of : ClientState → Address → ℕ
load_of w address = in_flight w (number_of w address)

-- A read goes by the command's own preference, else by the client's; every other command writes (Server Selection, Read
-- Preference).
abbrev pub preference_for : Client → Act → Preference
preference_for client act = option_map_or (λ p. p) (own_preference act) client.settings.read

abbrev pub NeedsFor : Client → Act → Need → Type 0
NeedsFor client act need.Write = writes act ≡ true
NeedsFor client act (need.Read p) = (writes act ≡ false) × (p.now ≡ preference_for client act)

-- The first of the servers that were tried is to be avoided (Server Selection, deprioritized servers).
abbrev pub first_tried : List ℕ → Option ℕ
first_tried [] = None
first_tried (host ∷ hosts) = Some host

-- What a command's look asks for (Server Selection; Retryable Writes, a retry avoids the server of the first attempt).
pub record IsAskedBy (client : Client) (w : ClientState) (act : Act) (c : CommandState) (criteria : Criteria) : Type 0 where
  pub needs : NeedsFor client act criteria.need
  pub avoids : option_copied criteria.avoid ≡ option_and_then (address_of w) (first_tried c.tried)
  pub within : criteria.threshold_micros ≡ threshold client

-- The one list lacks only items of the other, and has the others in their order (own: what a picker keeps).
abbrev pub IsKeptOf : {A : Type 0} → List A → List A → Type 0
IsKeptOf [] xs = Unit {0}
IsKeptOf (k ∷ ks) [] = ⊥
IsKeptOf (k ∷ ks) (x ∷ xs) = ((k ≡ x) × IsKeptOf ks xs) ⊎ IsKeptOf (k ∷ ks) xs

-- Numbers are those of servers that stand in the topology with these addresses.
abbrev pub AreNumbersOf : ClientState → List ℕ → List Address → Type 0
AreNumbersOf w [] [] = Unit {0}
AreNumbersOf w (host ∷ hosts) (address ∷ addresses) = (number_of w address ≡ Some host) × AreNumbersOf w hosts addresses
AreNumbersOf w _ _ = ⊥

-- ---- When it may stand

-- The moment of the first look of the selection, and its deadline (Server Selection, serverSelectionTimeoutMS).
abbrev pub first_look : CommandState → ℕ → ℕ
first_look c moment = option_map_or (λ (s : Selection). s.first) c.selection moment

abbrev pub deadline : Client → CommandState → ℕ → ℕ
deadline client c moment = first_look c moment + select_limit client

abbrev pub hosts_known : CommandState → ℕ
hosts_known c = option_map_or (λ (s : Selection). s.known) c.selection 0

-- What the choice comes to is what the look says: none fits yet ahead of the deadline, and fails at or past it once every
-- server was checked (Server Selection, Server Selection Algorithm).
abbrev pub Concludes : Client → ClientState → CommandState → ℕ → Picked → LookedHow → Type 0
Concludes client w c moment (picked.Chosen address) (looked.Chosen host) = number_of w address ≡ Some host
Concludes client w c moment (picked.Incompatible address min max) (looked.Incompatible host) = number_of w address ≡ Some host
Concludes client w c moment picked.NoneFits looked.NoneFits = moment < deadline client c moment
Concludes client w c moment picked.NoneFits looked.Failed =
    (deadline client c moment ≤ moment) × AreChecked w moment (first_look c moment) (deadline client c moment) (hosts_known c)
Concludes client w c moment p l = ⊥

-- A command looks: some of the candidates were kept, in their order, and of these the choice of two with the two words came to
-- what the look says.
pub record IsLook (client : Client) (w : ClientState) (moment op a b : ℕ) (kept : List ℕ) (how : LookedHow) : Type 0 where
  pub command : Command
  pub given : slice_get client.commands op ≡ Some command
  pub running : CommandState
  pub there : slice_get w.commands op ≡ Some running
  pub criteria : Criteria
  pub asks : IsAskedBy client w command.act running criteria
  pub addresses : List Address
  pub numbers : AreNumbersOf w kept addresses
  pub sublist : IsKeptOf addresses (map (λ c. c.host) (candidates w.topology criteria (load_of w)))
  pub concludes : Concludes client w running moment (picks w.topology.servers (threshold client) addresses (load_of w) a b) how

-- ---- What it does

-- The server of that number, as the topology has it now.
abbrev pub selected_by : ClientState → ℕ → Option ServerDescription → Option Selected
selected_by w host None = None
selected_by w host (Some d) =
    Some (record { host = host; kind = w.topology.kind; server = d; minutes = session_minutes_of w.topology.servers })

abbrev pub selected_of : ClientState → ℕ → Option Selected
selected_of w host = selected_by w host (option_and_then (description_of w) (slice_get w.servers host))

abbrev pub is_standalone : ServerKind → Bool
is_standalone server_kind.Standalone = true
is_standalone kind = false

-- Transaction numbers are drawn at the server: retryable writes are on, it is no standalone, and it has sessions (Retryable
-- Writes, Supported Server Versions, retryWrites).
abbrev pub is_numbered : Client → Selected → Bool
is_numbered client selected =
    client.settings.retry_writes && not (is_standalone selected.server.kind) && is_some selected.server.session_minutes

abbrev pub is_numbered_at : Client → ClientState → ℕ → Bool
is_numbered_at client w host = option_map_or (is_numbered client) (selected_of w host) false

-- The selection goes on behind a look that found none, and ends behind every other.
abbrev pub look_by : ClientState → ℕ → LookedHow → CommandState → CommandState
look_by w moment looked.NoneFits c = record c { selection = Some (record { first = first_look c moment; known = length w.servers }) }
look_by w moment (looked.Chosen host) c = record c { selection = None; selected = selected_of w host }
look_by w moment looked.Failed c = record c { selection = None }
look_by w moment (looked.Incompatible host) c = record c { selection = None }

-- A look that found none asks for a check of every server (Server Selection, requesting an immediate topology check).
abbrev pub look_asks : ℕ → LookedHow → ClientState → ClientState
look_asks moment looked.NoneFits w = all_asked moment w
look_asks moment how w = w

abbrev pub looked_after : ℕ → ℕ → LookedHow → ClientState → ClientState
looked_after moment op how w = with_command (look_asks moment how w) op (look_by w moment how)

-- ---- What it owes

-- Behind a look that found none the checks that are due begin, the ones that it asked for among them.
abbrev pub look_owes : ℕ → LookedHow → ClientState → List Owed
look_owes moment looked.NoneFits w = due_from 0 moment (all_asked moment w).servers
look_owes moment how w = []
