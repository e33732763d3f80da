-- Candidates are servers of the topology.
use denote.Ref.{Bor}
use Rattle.std.proofs.Common.{◌≤◌, ℕ, Bool, not, List, [], ◌∷◌, length, map, filter, Option, None, Some, arith}
use Rattle.std.proofs.lemmas.List.{length-map}
use Rattle.std.proofs.lemmas.List.Elements.{All-filter, All-map, All-nil}
use Rattle.std.proofs.lemmas.List.Sums.{count_by-le-length, length-filter}
use Rattle.std.specs.FinMap as map
use Rattle.std.specs.List.{All}
use Rattle.host_name.specs.Addresses.{Address, is_same_address}
use Rattle.hello_reply.specs.declared.server_description.ServerDescription.{ServerDescription}
use Rattle.read_pref.specs.declared.mode.Mode.{Mode}
use Rattle.read_pref.specs.declared.mode.Mode.TheVariants as mode
use Rattle.read_pref.specs.declared.tag.Tag.{Tag}
use Rattle.topo_rules.specs.Kinds.{is_known, is_primary}
use Rattle.topo_rules.specs.declared.kind.TopoKind.{TopoKind}
use Rattle.topo_rules.specs.declared.kind.TopoKind.TheVariants as topo
use Rattle.topo_rules.specs.declared.topology.Topology.{Topology}
use Rattle.server_pick.specs.Candidates.{avoiding, candidate_of, candidates, is_member, is_mongos, is_secondary, of_mode, of_set, or_else, suitable}
use Rattle.server_pick.specs.Tags.{deciding, fits, tagged, that_fit}
use Rattle.server_pick.specs.declared.candidate.Candidate.{Candidate}
use Rattle.server_pick.specs.declared.criteria.Criteria.{Criteria}
use Rattle.server_pick.specs.declared.criteria.Need.{Need}
use Rattle.server_pick.specs.declared.criteria.Need.TheVariants.{Write, Read}

-- ---- They are no more than the servers

fewer-filter : {A : Type 0} (p : A → Bool) (xs : List A) → length (filter p xs) ≤ length xs
fewer-filter p xs = omega (arith, length-filter p xs, count_by-le-length p xs)

fewer-or_else : {A : Type 0} (xs ys : List A) (n : ℕ) → length xs ≤ n → length ys ≤ n → length (or_else xs ys) ≤ n
fewer-or_else [] ys n a b = b
fewer-or_else (x ∷ xs) ys n a b = a

fewer-fit : (o : Option (List Tag)) (ds : List ServerDescription) → length (that_fit o ds) ≤ length ds
fewer-fit None ds = omega arith
fewer-fit (Some tags) ds = fewer-filter (fits tags) ds

fewer-tagged : (sets : List (List Tag)) (ds : List ServerDescription) → length (tagged sets ds) ≤ length ds
fewer-tagged [] ds = omega arith
fewer-tagged (tags ∷ more) ds = fewer-fit (deciding (tags ∷ more) ds) ds

fewer-some : (sets : List (List Tag)) (p : ServerDescription → Bool) (ds : List ServerDescription) → length (tagged sets (filter p ds)) ≤ length ds
fewer-some sets p ds = omega (arith, fewer-tagged sets (filter p ds), fewer-filter p ds)

fewer-mode : (m : Mode) (sets : List (List Tag)) (ds : List ServerDescription) → length (of_mode m sets ds) ≤ length ds
fewer-mode mode.Primary sets ds = fewer-filter is_primary ds
fewer-mode mode.PrimaryPreferred sets ds =
    fewer-or_else (filter is_primary ds) (tagged sets (filter is_secondary ds)) (length ds) (fewer-filter is_primary ds) (fewer-some sets is_secondary ds)
fewer-mode mode.Secondary sets ds = fewer-some sets is_secondary ds
fewer-mode mode.SecondaryPreferred sets ds =
    fewer-or_else (tagged sets (filter is_secondary ds)) (filter is_primary ds) (length ds) (fewer-some sets is_secondary ds) (fewer-filter is_primary ds)
fewer-mode mode.Nearest sets ds = fewer-some sets is_member ds

fewer-set : (need : Need) (ds : List ServerDescription) → length (of_set need ds) ≤ length ds
fewer-set Write ds = fewer-filter is_primary ds
fewer-set (Read p) ds = fewer-mode p.now.mode p.now.tag_sets ds

fewer-avoiding : (o : Option (Bor Address)) (ds : List ServerDescription) → length (avoiding o ds) ≤ length ds
fewer-avoiding None ds = omega arith
fewer-avoiding (Some host) ds =
    fewer-or_else (filter (λ (d : ServerDescription). not (is_same_address d.host host.now)) ds) ds (length ds)
    (fewer-filter (λ (d : ServerDescription). not (is_same_address d.host host.now)) ds) (omega arith)

fewer-suitable : (kind : TopoKind) (criteria : Criteria) (ds : List ServerDescription) → length (suitable kind criteria ds) ≤ length ds
fewer-suitable topo.Unknown criteria ds = omega arith
fewer-suitable topo.Single criteria ds = fewer-filter is_known ds
fewer-suitable topo.Sharded criteria ds = omega (arith, fewer-avoiding criteria.avoid (filter is_mongos ds), fewer-filter is_mongos ds)
fewer-suitable topo.NoPrimary criteria ds = fewer-set criteria.need ds
fewer-suitable topo.WithPrimary criteria ds = fewer-set criteria.need ds

pub fewer-candidates : (t : Topology) (criteria : Criteria) (load : Address → ℕ) → length (candidates t criteria load) ≤ length (map.values t.servers)
fewer-candidates t criteria load =
    omega (arith, length-map (suitable t.kind criteria (map.values t.servers)) (candidate_of load), fewer-suitable t.kind criteria (map.values t.servers))

-- ---- What all servers have, they have

module _ (P : ServerDescription → Type 0) where
  all-or_else : (xs ys : List ServerDescription) → All P xs → All P ys → All P (or_else xs ys)
  all-or_else [] ys a b = b
  all-or_else (x ∷ xs) ys a b = a

  all-fit : (o : Option (List Tag)) (ds : List ServerDescription) → All P ds → All P (that_fit o ds)
  all-fit None ds a = All-nil P
  all-fit (Some tags) ds a = All-filter (fits tags) P ds a

  all-tagged : (sets : List (List Tag)) (ds : List ServerDescription) → All P ds → All P (tagged sets ds)
  all-tagged [] ds a = a
  all-tagged (tags ∷ more) ds a = all-fit (deciding (tags ∷ more) ds) ds a

  all-some : (sets : List (List Tag)) (p : ServerDescription → Bool) (ds : List ServerDescription) → All P ds → All P (tagged sets (filter p ds))
  all-some sets p ds a = all-tagged sets (filter p ds) (All-filter p P ds a)

  all-mode : (m : Mode) (sets : List (List Tag)) (ds : List ServerDescription) → All P ds → All P (of_mode m sets ds)
  all-mode mode.Primary sets ds a = All-filter is_primary P ds a
  all-mode mode.PrimaryPreferred sets ds a =
      all-or_else (filter is_primary ds) (tagged sets (filter is_secondary ds)) (All-filter is_primary P ds a) (all-some sets is_secondary ds a)
  all-mode mode.Secondary sets ds a = all-some sets is_secondary ds a
  all-mode mode.SecondaryPreferred sets ds a =
      all-or_else (tagged sets (filter is_secondary ds)) (filter is_primary ds) (all-some sets is_secondary ds a) (All-filter is_primary P ds a)
  all-mode mode.Nearest sets ds a = all-some sets is_member ds a

  all-set : (need : Need) (ds : List ServerDescription) → All P ds → All P (of_set need ds)
  all-set Write ds a = All-filter is_primary P ds a
  all-set (Read p) ds a = all-mode p.now.mode p.now.tag_sets ds a

  all-avoiding : (o : Option (Bor Address)) (ds : List ServerDescription) → All P ds → All P (avoiding o ds)
  all-avoiding None ds a = a
  all-avoiding (Some host) ds a =
      all-or_else (filter (λ (d : ServerDescription). not (is_same_address d.host host.now)) ds) ds
      (All-filter (λ (d : ServerDescription). not (is_same_address d.host host.now)) P ds a) a

  all-suitable : (kind : TopoKind) (criteria : Criteria) (ds : List ServerDescription) → All P ds → All P (suitable kind criteria ds)
  all-suitable topo.Unknown criteria ds a = All-nil P
  all-suitable topo.Single criteria ds a = All-filter is_known P ds a
  all-suitable topo.Sharded criteria ds a = all-avoiding criteria.avoid (filter is_mongos ds) (All-filter is_mongos P ds a)
  all-suitable topo.NoPrimary criteria ds a = all-set criteria.need ds a
  all-suitable topo.WithPrimary criteria ds a = all-set criteria.need ds a

pub all-candidates : (Q : Address → Type 0) (t : Topology) (criteria : Criteria) (load : Address → ℕ) → All (λ (d : ServerDescription). Q d.host) (map.values t.servers) →
    All Q (map (λ (c : Candidate). c.host) (candidates t criteria load))
all-candidates Q t criteria load a =
    All-map Q (λ (c : Candidate). c.host) (candidates t criteria load)
    (All-map (λ (c : Candidate). Q c.host) (candidate_of load) (suitable t.kind criteria (map.values t.servers))
    (all-suitable (λ (d : ServerDescription). Q d.host) t.kind criteria (map.values t.servers) a))
