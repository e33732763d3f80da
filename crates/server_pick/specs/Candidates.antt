-- Which servers of a topology may take an operation (Server Selection, Suitable servers by topology type).
use denote.Ref.{Bor}
use Rattle.std.specs.Prelude.{ℕ, Bool, true, false, not, ◌||◌, List, [], ◌∷◌, Option, None, Some, map, filter, unwrap_or}
use Rattle.std.specs.FinMap as map
use Rattle.host_name.specs.Addresses.{Address, is_same_address}
use Rattle.hello_reply.specs.declared.server_description.ServerDescription.{ServerDescription}
use Rattle.hello_reply.specs.declared.server_kind.ServerKind.{ServerKind}
use Rattle.hello_reply.specs.declared.server_kind.ServerKind.TheVariants as server
use Rattle.read_pref.specs.declared.mode.Mode.{Mode}
use Rattle.read_pref.specs.declared.mode.Mode.TheVariants as mode
use Rattle.read_pref.specs.declared.tag.Tag.{Tag}
use Rattle.topo_rules.specs.Kinds.{is_known, is_primary}
use Rattle.topo_rules.specs.declared.kind.TopoKind.{TopoKind}
use Rattle.topo_rules.specs.declared.kind.TopoKind.TheVariants as topo
use Rattle.topo_rules.specs.declared.topology.Topology.{Topology}
use Rattle.server_pick.specs.Tags.{tagged}
use Rattle.server_pick.specs.declared.candidate.Candidate.{Candidate}
use Rattle.server_pick.specs.declared.criteria.Criteria.{Criteria}
use Rattle.server_pick.specs.declared.criteria.Need.{Need}
use Rattle.server_pick.specs.declared.criteria.Need.TheVariants.{Write, Read}

abbrev pub is_mongos_kind : ServerKind → Bool
is_mongos_kind server.Mongos = true
is_mongos_kind _ = false

abbrev pub is_secondary_kind : ServerKind → Bool
is_secondary_kind server.Secondary = true
is_secondary_kind _ = false

abbrev pub is_mongos : ServerDescription → Bool
is_mongos d = is_mongos_kind d.kind

abbrev pub is_secondary : ServerDescription → Bool
is_secondary d = is_secondary_kind d.kind

-- A member of a replica set that bears data.
abbrev pub is_member : ServerDescription → Bool
is_member d = is_primary d || is_secondary d

-- These, or those where there are none of these.
abbrev pub or_else : {A : Type 0} → List A → List A → List A
or_else [] those = those
or_else (x ∷ xs) those = x ∷ xs

-- ---- One definition for each mode of reads from a replica set (Server Selection, Read Preference, mode)

-- The primary. Tag sets are not looked at.
abbrev pub of_primary : List ServerDescription → List ServerDescription
of_primary ds = filter is_primary ds

-- The secondaries that fit.
abbrev pub of_secondary : List (List Tag) → List ServerDescription → List ServerDescription
of_secondary sets ds = tagged sets (filter is_secondary ds)

-- The primary, else the secondaries that fit.
abbrev pub of_primary_preferred : List (List Tag) → List ServerDescription → List ServerDescription
of_primary_preferred sets ds = or_else (of_primary ds) (of_secondary sets ds)

-- The secondaries that fit, else the primary, whatever its tags.
abbrev pub of_secondary_preferred : List (List Tag) → List ServerDescription → List ServerDescription
of_secondary_preferred sets ds = or_else (of_secondary sets ds) (of_primary ds)

-- The primary and the secondaries that fit, with one tag set deciding for all of them.
abbrev pub of_nearest : List (List Tag) → List ServerDescription → List ServerDescription
of_nearest sets ds = tagged sets (filter is_member ds)

abbrev pub of_mode : Mode → List (List Tag) → List ServerDescription → List ServerDescription
of_mode mode.Primary sets ds = of_primary ds
of_mode mode.PrimaryPreferred sets ds = of_primary_preferred sets ds
of_mode mode.Secondary sets ds = of_secondary sets ds
of_mode mode.SecondaryPreferred sets ds = of_secondary_preferred sets ds
of_mode mode.Nearest sets ds = of_nearest sets ds

-- ---- One definition for each kind of topology

-- A replica set: a write goes to the primary, a read by its mode (Server Selection, Topology types ReplicaSetWithPrimary and
-- ReplicaSetNoPrimary).
abbrev pub of_set : Need → List ServerDescription → List ServerDescription
of_set Write ds = of_primary ds
of_set (Read p) ds = of_mode p.now.mode p.now.tag_sets ds

-- A single server takes everything once it is known; its tags are not looked at (Server Selection, Topology type Single).
abbrev pub of_single : List ServerDescription → List ServerDescription
of_single ds = filter is_known ds

-- Servers other than the one to avoid, or all where there are no others (Server Selection, deprioritized servers).
abbrev pub avoiding : Option (Bor Address) → List ServerDescription → List ServerDescription
avoiding None ds = ds
avoiding (Some host) ds = or_else (filter (λ d. not (is_same_address d.host host.now)) ds) ds

-- Every mongos may take everything, but for the one to avoid; tags are not looked at (Server Selection, Topology type Sharded).
abbrev pub of_sharded : Option (Bor Address) → List ServerDescription → List ServerDescription
of_sharded avoid ds = avoiding avoid (filter is_mongos ds)

-- The servers that may take what is needed, of all servers in the order of hosts. Of a topology of which nothing is known
-- there is none (Server Selection, Topology type Unknown).
abbrev pub suitable : TopoKind → Criteria → List ServerDescription → List ServerDescription
suitable topo.Unknown criteria ds = []
suitable topo.Single criteria ds = of_single ds
suitable topo.Sharded criteria ds = of_sharded criteria.avoid ds
suitable topo.NoPrimary criteria ds = of_set criteria.need ds
suitable topo.WithPrimary criteria ds = of_set criteria.need ds

-- ---- Candidates

-- What a picker sees of a server (own: a mean that is absent counts as 0).
abbrev pub candidate_of : (Address → ℕ) → ServerDescription → Candidate
candidate_of load d = record { host = d.host; kind = d.kind; mean = unwrap_or d.mean 0; in_flight = load d.host }

-- The candidates, in the order of hosts.
abbrev pub candidates : Topology → Criteria → (Address → ℕ) → List Candidate
candidates t criteria load = map (candidate_of load) (suitable t.kind criteria (map.values t.servers))
