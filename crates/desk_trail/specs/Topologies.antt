-- A client's topology: what becomes of an event that is offered (SDAM).
use Rattle.std.specs.Prelude.{◌≡◌, ◌↔◌, ℕ, ◌+◌, Bool, false, IsFalse, List, [], ◌∷◌, ◌++◌, Option, None, Some, map, filter_map, slice_get, option_to_list, if◌then◌else◌}
use Rattle.std.specs.Option.{option_map_or, option_and_then}
use Rattle.host_name.specs.Addresses.{Address}
use Rattle.topo_rules.specs.declared.event.TopoEvent.{TopoEvent}
use Rattle.topo_rules.specs.declared.event.TopoEvent.TheVariants.{Reply, Broken, Refused}
use Rattle.topo_rules.specs.declared.topology.Topology.{Topology}
use Rattle.topo_rules.specs.Changes.{SameButMeans, hosts_beyond, ready_after, cleared_after}
use Rattle.topo_rules.specs.Rules as rules
use Rattle.topo_rules.specs.Rules.{event_host}
use Rattle.topo_book.specs.Fresh.{taken, is_accepted_verdict}
use Rattle.topo_book.specs.declared.verdict.Verdict.{Verdict}
use Rattle.topo_book.specs.declared.verdict.Verdict.TheVariants as verdict
use Rattle.pool_book.specs.Pool.{is_paused}
use Rattle.desk_trail.specs.declared.entry.OfferedHow.{OfferedHow}
use Rattle.desk_trail.specs.declared.entry.OfferedHow.TheVariants as offered
use Rattle.desk_trail.specs.States.{ClientState, ServerState, number_of, with_server}
use Rattle.desk_trail.specs.Checks.{asked}
use Rattle.desk_trail.specs.Owed.{Owed}
use Rattle.desk_trail.specs.Owed as owed

-- The generation of a server's pool, 0 where there is no server.
abbrev pub generation_in : Option ServerState → ℕ
generation_in None = 0
generation_in (Some s) = s.pool.state.generation

-- The server that stands in the topology with that address.
abbrev pub server_with : ClientState → Address → Option ServerState
server_with w address = option_and_then (slice_get w.servers) (number_of w address)

-- The generation that an event is compared with: that of its host's pool (SDAM, Why ignore errors based on CMAP's
-- generation).
abbrev pub generation_for : ClientState → TopoEvent → ℕ
generation_for w event = generation_in (server_with w (event_host event))

-- What the topology answers to an event.
abbrev pub verdict_on : ClientState → TopoEvent → Verdict
verdict_on w event = taken w.topology.servers event (generation_for w event)

-- What an entry says of it: the verdict, and of an accepted event whether the topologies before and behind it differ.
abbrev pub Says : ClientState → TopoEvent → Verdict → OfferedHow → Type 0
Says w event verdict.Accepted (offered.Accepted differs) = IsFalse differs ↔ SameButMeans w.topology (rules.after w.topology event)
Says w event verdict.Gone offered.Gone = Unit {0}
Says w event (verdict.StaleVersion kept came) offered.StaleVersion = Unit {0}
Says w event (verdict.StaleGeneration kept came) offered.StaleGeneration = Unit {0}
Says w event v h = ⊥

-- The entry offers the next event, and says what became of it.
pub record IsOffered (w : ClientState) (place : ℕ) (event : TopoEvent) (how : OfferedHow) : Type 0 where
  pub next : place ≡ w.events
  pub says : Says w event (verdict_on w event) how

-- ---- What it does

-- A refused command asks for a check of its server, where it is taken in (SDAM, Error handling: request an immediate check).
abbrev pub asks_of : TopoEvent → Option Address
asks_of (Refused host version generation shutdown) = Some host
asks_of (Reply description sample) = None
asks_of (Broken host generation) = None

abbrev pub asked_at : ℕ → Option ℕ → ClientState → ClientState
asked_at moment None w = w
asked_at moment (Some host) w = with_server w host (asked moment)

abbrev pub with_ask : ℕ → TopoEvent → ClientState → ClientState
with_ask moment event w = asked_at moment (option_and_then (number_of w) (asks_of event)) w

-- The topology behind an event: one that is not accepted changes nothing (SDAM, Updating the TopologyDescription).
abbrev pub topology_after : ClientState → TopoEvent → Topology
topology_after w event = if is_accepted_verdict (verdict_on w event) then rules.after w.topology event else w.topology

-- The client behind an event that was offered.
abbrev pub offered_after : ℕ → TopoEvent → ClientState → ClientState
offered_after moment event w =
    let asked = if is_accepted_verdict (verdict_on w event) then with_ask moment event w else w in
    record asked { topology = topology_after w event; events = w.events + 1 }

-- ---- What it owes

-- The pool of the host that is ready behind the event, where it is paused (SDAM, Connection Pool Management).
abbrev pub is_paused_at : ClientState → ℕ → Bool
is_paused_at w host = option_map_or (λ s. is_paused s.pool.state.state) (slice_get w.servers host) false

abbrev pub readied : ClientState → Option ℕ → List Owed
readied w None = []
readied w (Some host) = if is_paused_at w host then owed.PoolReady host ∷ [] else []

-- The pool of the host that is cleared.
abbrev pub cleared : Option ℕ → List Owed
cleared host = map (λ x. owed.PoolClear x) (option_to_list host)

-- What an accepted event owes: its added hosts are named, its removed hosts dropped, each in the order of hosts; then a pool is
-- made ready, or cleared (SDAM, Updating the TopologyDescription, Connection Pool Management, Error handling).
abbrev pub owed_by_change : ClientState → TopoEvent → Topology → List Owed
owed_by_change w event new =
    map (λ address. owed.Named address) (hosts_beyond new.servers w.topology.servers)
    ++ (map (λ host. owed.Dropped host) (filter_map (number_of w) (hosts_beyond w.topology.servers new.servers))
    ++ (readied w (option_and_then (number_of w) (ready_after event new))
    ++ cleared (option_and_then (number_of w) (cleared_after event new))))

abbrev pub offered_owes : ClientState → TopoEvent → List Owed
offered_owes w event =
    if is_accepted_verdict (verdict_on w event) then owed_by_change w event (rules.after w.topology event) else []
