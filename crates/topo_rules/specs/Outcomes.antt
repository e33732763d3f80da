-- What an event makes of a topology, as the code prepares it before the topology changes.
use Rattle.std.specs.Prelude.{◌≡◌, if◌then◌else◌, List, ℕ, Option, None, Some}
use Rattle.std.specs.Arc.{arc_value}
use Rattle.std.specs.FinMap as map
use Rattle.host_name.specs.Addresses.{Address}
use Rattle.topo_rules.specs.declared.kind.TopoKind.{TopoKind}
use Rattle.topo_rules.specs.declared.kind.TopoKind.TheVariants as topo
use Rattle.topo_rules.specs.declared.outcome.Edit.{Edit}
use Rattle.topo_rules.specs.declared.outcome.Edit.TheVariants.{Put, Whole}
use Rattle.topo_rules.specs.declared.outcome.KindRule.{KindRule}
use Rattle.topo_rules.specs.declared.outcome.KindRule.TheVariants.{Is, ByPrimary}
use Rattle.topo_rules.specs.declared.outcome.Outcome.{Outcome}
use Rattle.topo_rules.specs.declared.topology.Topology.{Topology}
use Rattle.topo_rules.specs.Maps.{ServerMap, has_primary}

-- The servers behind an edit: one description put at its host, or all of them anew.
abbrev pub edited : ServerMap → Edit → ServerMap
edited m (Put shared) = map.insert m (arc_value shared).host (arc_value shared)
edited m (Whole servers) = servers

-- The kind: as it is named, or by checkIfHasPrimary over the servers.
abbrev pub kind_by : KindRule → ServerMap → TopoKind
kind_by (Is kind) m = kind
kind_by ByPrimary m = if has_primary m then topo.WithPrimary else topo.NoPrimary

-- The set name: the one that came, where one is taken.
abbrev pub name_by : Option (List ℕ) → Option (List ℕ) → Option (List ℕ)
name_by known None = known
name_by known (Some came) = Some came

-- The topology that an outcome makes of a topology.
abbrev pub made : Topology → Outcome → Topology
made t o = record t {
  kind = kind_by o.kind (edited t.servers o.edit);
  set_name = name_by t.set_name o.name;
  max_election = o.most.election;
  max_set_version = o.most.version;
  servers = edited t.servers o.edit;
}

-- Where one description is put, it is that of the host.
abbrev pub PutsAt : Address → Edit → Type 0
PutsAt host (Put shared) = (arc_value shared).host ≡ host
PutsAt host (Whole servers) = Unit {0}

-- The outcome makes of the one topology the other, by what is said of the host.
pub record IsOutcome (t : Topology) (host : Address) (next : Topology) (o : Outcome) : Type 0 where
  pub makes : made t o ≡ next
  pub puts : PutsAt host o.edit
