-- The hosts that a change adds, those that it removes and the one whose pool moves are others each.
use Rattle.std.proofs.Common.{◌≡◌, ℕ, suc, Bool, true, false, cond, not, ◌&&◌, ◌||◌, if◌then◌else◌, List, [], ◌∷◌, map, filter, Option, None, Some, is_some, refl, sym, ap, ◌∙◌, subst, slice_get, true≢false}
use Rattle.std.specs.FinMap as map
use Rattle.std.specs.List.{AllByRecursion, IsDistinct, list_any}
use Rattle.std.specs.Option.{option_map_or}
use Rattle.std.specs.Ordering.{eq_by_cmp}
use Rattle.std.proofs.lemmas.Map.Keys.{IsDistinct-cons, IsDistinct-from_sorted, IsDistinct-head, IsDistinct-tail}
use Rattle.hello_reply.specs.declared.server_description.ServerDescription.{ServerDescription}
use Rattle.host_name.specs.Addresses.{Address, address_cmp, is_same_address, is_same_address-true}
use Rattle.host_name.proofs.HostOrder.{host_ties}
use Rattle.topo_rules.specs.declared.change.Change.{Change}
use Rattle.topo_rules.specs.declared.event.TopoEvent.{TopoEvent}
use Rattle.topo_rules.specs.declared.event.TopoEvent.TheVariants.{Reply, Broken, Refused}
use Rattle.topo_rules.specs.declared.topology.Topology.{Topology}
use Rattle.topo_rules.specs.Changes.{IsChange, cleared_after, hosts_beyond, ready_after, serves, serves_host, stands}
use Rattle.topo_rules.specs.Maps.{ServerMap}
use Rattle.topo_rules.specs.Rules.{event_host}
use Rattle.topo_rules.proofs.HostTables.{in_order}
use Rattle.topo_rules.proofs.Tabulate.{get_at}
use Rattle.topo_book.specs.Fresh.{by_kept}
use Rattle.topo_book.specs.declared.verdict.Verdict.TheVariants as verdict
use Rattle.desk_core.specs.Follows.{AreApart, AreNone, IsNone, IsNoneOf}

abbrev Entry : Type 0
Entry = Address × ServerDescription

-- ---- Hosts that differ

all-filter : (P : Address → Type 0) (p : Address → Bool) (ks : List Address) → AllByRecursion P ks → AllByRecursion P (filter p ks)
all-filter P p [] h = tt
all-filter P p (k ∷ ks) h = by (p k) (all-filter P p ks h.1)
  where
    by : (b : Bool) → AllByRecursion P (filter p ks) → AllByRecursion P (cond b (k ∷ filter p ks) (filter p ks))
    by true rest = (h.0, rest)
    by false rest = rest

distinct-filter : (e : Address → Address → Bool) (p : Address → Bool) (ks : List Address) → IsDistinct e ks → IsDistinct e (filter p ks)
distinct-filter e p [] h = h
distinct-filter e p (k ∷ ks) h = by (p k) (distinct-filter e p ks (IsDistinct-tail e k ks h))
  where
    by : (b : Bool) → IsDistinct e (filter p ks) → IsDistinct e (cond b (k ∷ filter p ks) (filter p ks))
    by true rest = IsDistinct-cons e k (filter p ks) (all-filter (λ y. e k y ≡ false) p ks (IsDistinct-head e k ks h)) rest
    by false rest = rest

all-ties : (k : Address) (ks : List Address) → AllByRecursion (λ y. eq_by_cmp address_cmp k y ≡ false) ks → AllByRecursion (λ y. is_same_address k y ≡ false) ks
all-ties k [] h = tt
all-ties k (x ∷ xs) h = (host_ties k x ∙ h.0, all-ties k xs h.1)

distinct-ties : (ks : List Address) → IsDistinct (eq_by_cmp address_cmp) ks → IsDistinct is_same_address ks
unfolding IsDistinct
distinct-ties [] h = tt
distinct-ties (k ∷ ks) h =
    IsDistinct-cons is_same_address k ks (all-ties k ks (IsDistinct-head (eq_by_cmp address_cmp) k ks h))
    (distinct-ties ks (IsDistinct-tail (eq_by_cmp address_cmp) k ks h))

beyond-distinct : (m other : ServerMap) → IsDistinct is_same_address (hosts_beyond m other)
beyond-distinct m other =
    distinct-filter is_same_address (λ x. not (is_some (map.get other x))) (map.keys m)
    (distinct-ties (map.keys m) (IsDistinct-from_sorted address_cmp (map.keys m) (in_order m).rise))

-- ---- A host of the other map is none of those beyond it

none-filter : (p : Address → Bool) (x : Address) → p x ≡ false → (ks : List Address) → IsNone x (filter p ks)
none-filter p x h [] = refl
none-filter p x h (k ∷ ks) = by (p k) refl (none-filter p x h ks)
  where
    other : p k ≡ true → (s : Bool) → is_same_address k x ≡ s → is_same_address k x ≡ false
    other e false s = s
    other e true s = absurd (true≢false (sym e ∙ ap p (is_same_address-true k x s) ∙ h))

    by : (b : Bool) → p k ≡ b → IsNone x (filter p ks) → IsNone x (cond b (k ∷ filter p ks) (filter p ks))
    by false e rest = rest
    by true e rest = ap (λ (b : Bool). b || list_any (λ z. is_same_address z x) (filter p ks)) (other e (is_same_address k x) refl) ∙ rest

beyond-none : (m other : ServerMap) (x : Address) → is_some (map.get other x) ≡ true → IsNone x (hosts_beyond m other)
beyond-none m other x h = none-filter (λ y. not (is_some (map.get other y))) x (ap not h) (map.keys m)

keys-stand : (m : ServerMap) (es : List Entry) → ((i : ℕ) (e : Entry) → slice_get es i ≡ Some e → map.get m e.0 ≡ Some e.1) →
    AllByRecursion (λ k. is_some (map.get m k) ≡ true) (map (λ (e : Entry). e.0) es)
keys-stand m [] at = tt
keys-stand m (e ∷ es) at = (ap is_some (at 0 e refl), keys-stand m es (λ i f is. at (suc i) f is))

none-each : (m other : ServerMap) (ks : List Address) → AllByRecursion (λ k. is_some (map.get m k) ≡ true) ks → AreNone ks (hosts_beyond other m)
none-each m other [] h = tt
none-each m other (k ∷ ks) h = (beyond-none other m k h.0, none-each m other ks h.1)

beyond-apart : (m other : ServerMap) → AreNone (hosts_beyond m other) (hosts_beyond other m)
beyond-apart m other =
    none-each m other (hosts_beyond m other)
    (all-filter (λ k. is_some (map.get m k) ≡ true) (λ x. not (is_some (map.get other x))) (map.keys m) (keys-stand m (map.entries m) (get_at m)))

-- ---- The host whose pool moves is the event's, and stands behind it

some-served : (f : ServerDescription → Bool) (o : Option ServerDescription) → option_map_or f o false ≡ true → is_some o ≡ true
some-served f None h = absurd (true≢false (sym h))
some-served f (Some d) h = refl

and-right : (a b : Bool) → (a && b) ≡ true → b ≡ true
and-right true b e = e
and-right false b e = absurd (true≢false (sym e))

none-where : (b : Bool) (x : Address) (xs : List Address) → (b ≡ true → IsNone x xs) → IsNoneOf (if b then Some x else None) xs
none-where true x xs h = h refl
none-where false x xs h = tt

ready-none : (new : Topology) (event : TopoEvent) (xs : List Address) → (stands new (event_host event) ≡ true → IsNone (event_host event) xs) → IsNoneOf (ready_after event new) xs
ready-none new (Reply d sample) xs h = none-where (serves_host new d.host) d.host xs (λ e. h (some-served (serves new) (map.get new.servers d.host) e))
ready-none new (Broken host generation) xs h = tt
ready-none new (Refused host version generation shutdown) xs h = tt

cleared-none : (new : Topology) (event : TopoEvent) (xs : List Address) → (stands new (event_host event) ≡ true → IsNone (event_host event) xs) → IsNoneOf (cleared_after event new) xs
cleared-none new (Reply d sample) xs h = tt
cleared-none new (Broken host generation) xs h = none-where (stands new host) host xs h
cleared-none new (Refused host version generation shutdown) xs h = none-where (shutdown && stands new host) host xs (λ e. h (and-right shutdown (stands new host) e))

pub AreApart-change : (t : Topology) (event : TopoEvent) (new : Topology) (c : Change) → IsChange t event new c → stands t (event_host event) ≡ true → AreApart c
AreApart-change t event new c h stood =
    let added = beyond-none new.servers t.servers (event_host event) stood in
    let removed = λ (now : stands new (event_host event) ≡ true). beyond-none t.servers new.servers (event_host event) now in
    record {
      removed = subst (λ xs. IsDistinct is_same_address xs) (sym h.removed) (beyond-distinct t.servers new.servers);
      kept = subst (λ xs. AreNone xs c.added) (sym h.removed) (subst (λ ys. AreNone (hosts_beyond t.servers new.servers) ys) (sym h.added) (beyond-apart t.servers new.servers));
      ready_stays = subst (λ o. IsNoneOf o c.added) (sym h.ready) (subst (λ xs. IsNoneOf (ready_after event new) xs) (sym h.added) (ready-none new event _ (λ now. added)));
      ready_is_left = subst (λ o. IsNoneOf o c.removed) (sym h.ready) (subst (λ xs. IsNoneOf (ready_after event new) xs) (sym h.removed) (ready-none new event _ removed));
      clear_stays = subst (λ o. IsNoneOf o c.added) (sym h.clear) (subst (λ xs. IsNoneOf (cleared_after event new) xs) (sym h.added) (cleared-none new event _ (λ now. added)));
      clear_is_left = subst (λ o. IsNoneOf o c.removed) (sym h.clear) (subst (λ xs. IsNoneOf (cleared_after event new) xs) (sym h.removed) (cleared-none new event _ removed));
    }

-- an event that is accepted is of a host that stands
pub accepted-stands : (o : Option ServerDescription) (event : TopoEvent) (pool : ℕ) → by_kept o event pool ≡ verdict.Accepted → is_some o ≡ true
accepted-stands None event pool h = absurd (cc)
accepted-stands (Some d) event pool h = refl
