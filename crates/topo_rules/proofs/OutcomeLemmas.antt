-- What the outcomes of the rules make of a topology.
use Rattle.std.proofs.Common.{◌≡◌, Bool, true, false, cond, if◌then◌else◌, List, ℕ, Option, None, Some, refl, sym, ap, ◌∙◌}
use Rattle.std.specs.FinMap as map
use Rattle.std.specs.Ordering.{eq_by_cmp}
use Rattle.host_name.specs.Addresses.{Address, address_cmp, is_same_address}
use Rattle.hello_reply.specs.declared.server_description.ServerDescription.{ServerDescription}
use Rattle.hello_reply.specs.Descriptions.{unknown as default_unknown_of}
use Rattle.std.specs.Option.{unwrap_or, option_or}
use Rattle.topo_rules.specs.declared.kind.TopoKind.{TopoKind}
use Rattle.topo_rules.specs.declared.maxima.Maxima.{Maxima}
use Rattle.topo_rules.specs.declared.topology.Topology.{Topology}
use Rattle.topo_rules.specs.declared.outcome.KindRule.TheVariants.{ByPrimary}
use Rattle.topo_rules.specs.Outcomes.{kind_by}
use Rattle.topo_rules.specs.Kinds.{is_primary}
use Rattle.topo_rules.specs.Primaries.{judged}
use Rattle.topo_rules.specs.Rules.{name_differs, me_differs, placed, without, taken_name, check_if_has_primary, with_verdict, update_rs_from_primary, update_rs_without_primary}
use Rattle.topo_rules.specs.Maps.{ServerMap, tabulate, joined, known_or_new, beside_primary, servers_of_primary}
use Rattle.host_name.proofs.HostOrder.{host_total, host_same, host_ties}

twice : {A : Type 0} (b : Bool) (x y z : A) → cond b x (cond b y z) ≡ cond b x z
twice true x y z = refl
twice false x y z = refl

-- the later of two descriptions at a host stands
pub insert-insert : (m : ServerMap) (k : Address) (d e : ServerDescription) → map.insert (map.insert m k d) k e ≡ map.insert m k e
insert-insert m k d e = map.same_map host_total host_same _ _ (λ q.
    map.get-insert host_total (map.insert m k d) k e q ∙ ap (cond (eq_by_cmp address_cmp q k) (Some e)) (map.get-insert host_total m k d q)
    ∙ twice (eq_by_cmp address_cmp q k) (Some e) (Some d) (map.get m q) ∙ sym (map.get-insert host_total m k e q))

-- a host that is removed leaves what stood there behind
pub remove-insert : (m : ServerMap) (k : Address) (d : ServerDescription) → map.remove (map.insert m k d) k ≡ map.remove m k
remove-insert m k d = map.same_map host_total host_same _ _ (λ q.
    map.get-remove host_total (map.insert m k d) k q ∙ ap (cond (eq_by_cmp address_cmp q k) None) (map.get-insert host_total m k d q)
    ∙ twice (eq_by_cmp address_cmp q k) None (Some d) (map.get m q) ∙ sym (map.get-remove host_total m k q))

tabulate-same : (f g : Address → ServerDescription) → ((x : Address) → f x ≡ g x) → (xs : List Address) → tabulate xs f ≡ tabulate xs g
tabulate-same f g same xs = ap (λ (h : Address → ServerDescription). tabulate xs h) (λ i x. same x i)

abbrev rest : ServerMap → Address → ServerDescription
rest n x = (let old = known_or_new n x in cond (is_primary old) (default_unknown_of x) old)

-- what a primary lists does not depend on what stood at its own host
pub primary-insert : (m : ServerMap) (d : ServerDescription) → servers_of_primary (map.insert m d.host d) d ≡ servers_of_primary m d
primary-insert m d = tabulate-same (beside_primary (map.insert m d.host d) d) (beside_primary m d) (λ x. by x (is_same_address x d.host) (host_ties x d.host)) d.listed
  where
    by : (x : Address) (b : Bool) → b ≡ eq_by_cmp address_cmp x d.host → cond b d (rest (map.insert m d.host d) x) ≡ cond b d (rest m x)
    by x true e = refl
    by x false e = ap (λ o. let old = unwrap_or o (default_unknown_of x) in cond (is_primary old) (default_unknown_of x) old) (map.get-insert host_total m d.host d x ∙ ap (λ c. cond c (Some d) (map.get m x)) (sym e))

-- the kind ahead of a primary's reply plays no part
pub from_primary-kind : (t : Topology) (d : ServerDescription) (k : TopoKind) → update_rs_from_primary t d ≡ update_rs_from_primary (record t { kind = k }) d
from_primary-kind t d k = by (name_differs t.set_name d.set_name) (judged d (record { election = t.max_election; version = t.max_set_version }))
  where
    by : (b : Bool) (o : Option Maxima) → check_if_has_primary (if b then without t d.host else with_verdict (taken_name t d.set_name) d o)
        ≡ check_if_has_primary (if b then without (record t { kind = k }) d.host else with_verdict (taken_name (record t { kind = k }) d.set_name) d o)
    by true o = refl
    by false None = refl
    by false (Some most) = refl

-- a member's reply of the set: the name and the servers
pub without_primary-makes : (t : Topology) (d : ServerDescription) (k : TopoKind) (name : Option (List ℕ)) (servers : ServerMap)
    → name ≡ option_or t.set_name d.set_name → servers ≡ (let all = joined (placed t d).servers d.listed in if me_differs d then map.remove all d.host else all) → name_differs t.set_name d.set_name ≡ false
    → record t { kind = k; set_name = name; servers = servers } ≡ update_rs_without_primary (record (placed t d) { kind = k }) d
without_primary-makes t d k name servers named are same =
    (λ i. record t { kind = k; set_name = named i; servers = are i })
    ∙ ap (λ b. if b then without (record (placed t d) { kind = k }) d.host
    else (let all = joined (placed t d).servers d.listed in
    record (record (placed t d) { kind = k }) { set_name = option_or t.set_name d.set_name; servers = if me_differs d then map.remove all d.host else all })) (sym same)

-- the reply of a primary that is not stale: the maxima, the name and the servers
pub primary-makes : (t : Topology) (d : ServerDescription) (most : Maxima) (name : Option (List ℕ)) (servers : ServerMap)
    → name ≡ option_or t.set_name d.set_name → servers ≡ servers_of_primary t.servers d
    → record t { kind = kind_by ByPrimary servers; set_name = name; max_election = most.election; max_set_version = most.version; servers = servers }
    ≡ check_if_has_primary (with_verdict (taken_name (placed t d) d.set_name) d (Some most))
primary-makes t d most name servers named are =
    (λ i. record t { kind = kind_by ByPrimary (are i); set_name = named i; max_election = most.election; max_set_version = most.version; servers = are i })
    ∙ ap (λ m. record t { kind = kind_by ByPrimary m; set_name = option_or t.set_name d.set_name; max_election = most.election; max_set_version = most.version; servers = m }) (sym (primary-insert t.servers d))
