-- What holds behind every list of events.
use Rattle.std.specs.Prelude.{◌≡◌, ℕ, ◌+◌, ◌≤◌, ◌⊎◌, Bool, true, false, if◌then◌else◌, List, [], fold, length, Some}
use Rattle.std.specs.FinMap as map
use Rattle.std.specs.List.{IsDistinct, list_any}
use Rattle.host_name.specs.Addresses.{Address, is_same_address}
use Rattle.hello_reply.specs.declared.server_description.ServerDescription.{ServerDescription}
use Rattle.hello_reply.specs.Descriptions.{unknown as default_unknown_of}
use Rattle.topo_rules.specs.declared.event.TopoEvent.{TopoEvent}
use Rattle.topo_rules.specs.declared.event.TopoEvent.TheVariants.{Reply}
use Rattle.topo_rules.specs.declared.kind.TopoKind.{TopoKind}
use Rattle.topo_rules.specs.declared.kind.TopoKind.TheVariants as topo
use Rattle.topo_rules.specs.declared.topology.Topology.{Topology}
use Rattle.topo_rules.specs.Changes.{hosts_beyond, stands}
use Rattle.topo_rules.specs.Kinds.{is_primary}
use Rattle.topo_rules.specs.Maps.{ServerMap, has_primary}
use Rattle.topo_rules.specs.Rules.{event_host, fresh, after}

-- The hosts and the word that a topology may start with: 1 to 16,777,216 hosts that differ, and one where the connection is
-- direct (SDAM, Initial Servers and Initial TopologyType; own: the greatest number).
pub record MayStart (hosts : List Address) (direct : Bool) : Type 0 where
  pub some : 1 ≤ length hosts
  pub most : length hosts ≤ 16777216
  pub differ : IsDistinct is_same_address hosts
  pub one : direct ≡ true → length hosts ≡ 1

-- The topology behind an event: one of a host that is not in the topology changes nothing (SDAM, Updating the
-- TopologyDescription: the outcome of a check of a removed server is ignored).
abbrev pub behind_event : Topology → TopoEvent → Topology
behind_event t event = if stands t (event_host event) then after t event else t

-- The topology behind events, in order.
abbrev pub behind_events : Topology → List TopoEvent → Topology
behind_events t events = fold behind_event t events

-- No two servers are primaries.
pub record AtMostOnePrimary (m : ServerMap) : Type 0 where
  pub only : (x y : Address) (d e : ServerDescription) → map.get m x ≡ Some d → map.get m y ≡ Some e → is_primary d ≡ true → is_primary e ≡ true → x ≡ y

-- The two kinds of a replica set tell whether a primary stands (SDAM, TopologyType: ReplicaSetWithPrimary and
-- ReplicaSetNoPrimary).
pub record KindTellsPrimary (t : Topology) : Type 0 where
  pub with_primary : t.kind ≡ topo.WithPrimary → has_primary t.servers ≡ true
  pub no_primary : t.kind ≡ topo.NoPrimary → has_primary t.servers ≡ false

-- A primary of this kind of topology is looked at as a member of a replica set (SDAM, TopologyType table).
abbrev pub is_set_kind : TopoKind → Bool
is_set_kind topo.Unknown = true
is_set_kind topo.NoPrimary = true
is_set_kind topo.WithPrimary = true
is_set_kind _ = false

-- Where the description of a host behind an event comes from: it is a default Unknown, what the event says of its own host,
-- or, of another host, what stood there.
abbrev pub StandsBehind : Topology → TopoEvent → Address → ServerDescription → Type 0
StandsBehind t event x d = (d ≡ default_unknown_of x) ⊎ (((x ≡ event_host event) × (d ≡ fresh t.servers event)) ⊎ ((x ≡ event_host event → ⊥) × (map.get t.servers x ≡ Some d)))

-- The hosts that an event lists: those of a reply. A broken check or connection and a refused command list none (SDAM,
-- ServerDescription: hosts, passives, arbiters).
abbrev pub listed_by : TopoEvent → List Address
listed_by (Reply description sample) = description.listed
listed_by _ = []

-- The event may remove the host: it is a reply, of the host itself or of a primary that does not list the host (SDAM, Updating
-- the TopologyDescription).
abbrev pub MayRemove : TopoEvent → Address → Type 0
MayRemove (Reply description sample) x = (x ≡ description.host) ⊎ ((is_primary description ≡ true) × (list_any (is_same_address x) description.listed ≡ false))
MayRemove _ x = ⊥

-- How many hosts an event removes at most: a reply of a primary all that stood, a reply of another server that server alone,
-- another event none.
abbrev pub most_removed : Topology → TopoEvent → ℕ
most_removed t (Reply description sample) = if is_primary description then map.len t.servers else 1
most_removed t _ = 0

-- How many hosts an event adds, removes and leaves at most: it adds no more than it lists.
pub record BoundedMoves (t : Topology) (event : TopoEvent) (new : Topology) : Type 0 where
  pub added : length (hosts_beyond new.servers t.servers) ≤ length (listed_by event)
  pub removed : length (hosts_beyond t.servers new.servers) ≤ most_removed t event
  pub stand : map.len new.servers ≤ map.len t.servers + length (listed_by event)
