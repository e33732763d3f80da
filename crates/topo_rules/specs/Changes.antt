-- What an event changed, read off the topologies before and behind it.
use Rattle.std.specs.Prelude.{◌≡◌, Bool, true, false, not, ◌&&◌, ◌||◌, ◌↔◌, IsTrue, IsFalse, if◌then◌else◌, List, map, filter, Option, None, Some, is_some}
use Rattle.std.specs.Option.{option_map_or}
use Rattle.std.specs.FinMap as map
use Rattle.host_name.specs.Addresses.{Address}
use Rattle.hello_reply.specs.declared.server_description.ServerDescription.{ServerDescription}
use Rattle.topo_rules.specs.declared.change.Change.{Change}
use Rattle.topo_rules.specs.declared.compared.Moves.{Moves}
use Rattle.topo_rules.specs.declared.event.TopoEvent.{TopoEvent}
use Rattle.topo_rules.specs.declared.event.TopoEvent.TheVariants.{Reply, Broken, Refused}
use Rattle.topo_rules.specs.declared.kind.TopoKind.{TopoKind}
use Rattle.topo_rules.specs.declared.kind.TopoKind.TheVariants as topo
use Rattle.topo_rules.specs.declared.topology.Topology.{Topology}
use Rattle.topo_rules.specs.Kinds.{is_known, bears_data}
use Rattle.topo_rules.specs.Maps.{ServerMap}

-- The hosts of the one map that are not in the other, in order.
abbrev pub hosts_beyond : ServerMap → ServerMap → List Address
hosts_beyond m other = filter (λ x. not (is_some (map.get other x))) (map.keys m)

abbrev pub is_single : TopoKind → Bool
is_single topo.Single = true
is_single _ = false

-- A pool may serve the server: it bears data, or is known in Single (SDAM, Connection Pool Management).
abbrev pub serves : Topology → ServerDescription → Bool
serves t d = bears_data d || is_single t.kind && is_known d

-- The topology has the host, and a pool may serve it.
abbrev pub serves_host : Topology → Address → Bool
serves_host t host = option_map_or (serves t) (map.get t.servers host) false

-- The host is in the map.
abbrev pub stands : Topology → Address → Bool
stands t host = is_some (map.get t.servers host)

-- The host whose pool is ready behind the event: that of a reply, where a pool may serve it (SDAM, Connection Pool
-- Management: the pool is marked ready once the server is discovered as data-bearing).
abbrev pub ready_after : TopoEvent → Topology → Option Address
ready_after (Reply description sample) new =
    if serves_host new description.host then Some description.host else None
ready_after _ new = None

-- The host whose pool is cleared behind the event: that of a broken check or connection, and that of a refusal by a server
-- that is shutting down, where it is still there (SDAM, Error handling: clear the connection pool).
abbrev pub cleared_after : TopoEvent → Topology → Option Address
cleared_after (Broken host generation) new = if stands new host then Some host else None
cleared_after (Refused host version generation shutdown) new = if shutdown && stands new host then Some host else None
cleared_after _ new = None

-- The description, its mean aside.
abbrev pub meanless : ServerDescription → ServerDescription
meanless d = record d { mean = None }

-- The hosts with their descriptions, means aside, in the order of hosts.
abbrev pub plain : ServerMap → List (Address × ServerDescription)
plain m = map (λ e. (e.0, meanless e.1)) (map.entries m)

-- Of each host but one: where both maps give it one kind, both say the same of it. The maps before and behind an event of
-- that one host are so: another host it leaves alone, adds, removes, or makes a default Unknown that was a primary.
pub record AlikeBeside (host : Address) (old new : ServerMap) : Type 0 where
  pub alike : (x : Address) (d e : ServerDescription) → (x ≡ host → ⊥) → map.get old x ≡ Some d → map.get new x ≡ Some e → d.kind ≡ e.kind → d ≡ e

-- The two topologies are the same but for means: kind, set name, maxima, hosts and descriptions (SDAM, TopologyDescription
-- equality; own: the maxima count too).
pub record SameButMeans (old new : Topology) : Type 0 where
  pub kind : old.kind ≡ new.kind
  pub set_name : old.set_name ≡ new.set_name
  pub max_election : old.max_election ≡ new.max_election
  pub max_set_version : old.max_set_version ≡ new.max_set_version
  pub servers : plain old.servers ≡ plain new.servers

-- What an event changes of the servers, read off the maps before and behind it.
pub record IsMoves (old new : ServerMap) (c : Moves) : Type 0 where
  pub added : c.added ≡ hosts_beyond new old
  pub removed : c.removed ≡ hosts_beyond old new
  pub same : IsTrue c.same ↔ (plain old ≡ plain new)

-- What a change says of the event and the topologies before and behind it.
pub record IsChange (old : Topology) (event : TopoEvent) (new : Topology) (c : Change) : Type 0 where
  pub added : c.added ≡ hosts_beyond new.servers old.servers
  pub removed : c.removed ≡ hosts_beyond old.servers new.servers
  pub ready : c.ready ≡ ready_after event new
  pub clear : c.clear ≡ cleared_after event new
  pub same : IsFalse c.differs ↔ SameButMeans old new
