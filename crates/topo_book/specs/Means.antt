-- The mean round trip time that a book keeps of a host, by the samples that it was offered.
use Rattle.std.specs.Prelude.{ℕ, Bool, false, if◌then◌else◌, List, [], ◌∷◌, ◌++◌, fold, Option}
use Rattle.std.specs.FinMap as map
use Rattle.std.specs.Option.{option_map_or}
use Rattle.host_name.specs.Addresses.{Address, is_same_address}
use Rattle.topo_rules.specs.declared.event.TopoEvent.{TopoEvent}
use Rattle.topo_rules.specs.declared.event.TopoEvent.TheVariants.{Reply, Broken, Refused}
use Rattle.topo_rules.specs.declared.topology.Topology.{Topology}
use Rattle.topo_rules.specs.Kinds.{is_known}
use Rattle.topo_rules.specs.Rules.{after}

-- The sample that an event brings of a host: that of a reply, of its own host.
abbrev pub sample_of : Address → TopoEvent → List ℕ
sample_of x (Reply description sample) = if is_same_address x description.host then sample ∷ [] else []
sample_of x _ = []

-- The host stands, and as another kind than Unknown.
abbrev pub stands_known : Topology → Address → Bool
stands_known t x = option_map_or is_known (map.get t.servers x) false

-- A topology, and the samples of a host since it last stood as Unknown or not at all, behind one more event.
abbrev pub with_sample : Address → Topology × List ℕ → TopoEvent → Topology × List ℕ
with_sample x s event = let t = after s.0 event in (t, if stands_known t x then s.1 ++ sample_of x event else [])

-- The samples of a host since it last stood as Unknown or not at all, behind events in order.
abbrev pub samples_since : Topology → List TopoEvent → Address → List ℕ
samples_since opening events x = (fold (with_sample x) (opening, []) events).1
