-- What stands behind an event: what stood, what the event says of its host, or a default Unknown.
use Rattle.std.proofs.Common.{◌≡◌, ◌⊎◌, inl, inr, Bool, true, false, cond, ◌&&◌, ◌||◌, if◌then◌else◌, List, Option, None, Some, is_some, refl, sym, ap, subst, ◌∙◌, true≢false}
use Rattle.std.specs.FinMap as map
use Rattle.std.specs.Option.{unwrap_or}
use Rattle.std.specs.Cmp.{tied_itself}
use Rattle.std.specs.Ordering.{eq_by_cmp, is_eq}
use Rattle.host_name.specs.Addresses.{Address, address_cmp, is_same_address, is_same_address-true}
use Rattle.hello_reply.specs.declared.server_description.ServerDescription.{ServerDescription}
use Rattle.hello_reply.specs.Descriptions.{unknown as default_unknown_of}
use Rattle.topo_rules.specs.declared.cell.Cell.{Cell}
use Rattle.topo_rules.specs.declared.cell.Cell.TheVariants.{UpdateSingle, Keep, Remove, UpdateUnknownWithStandalone, BecomeSharded, BecomeWithPrimary, BecomeNoPrimary, UpdateFromPrimary, UpdateWithoutPrimary, UpdateWithPrimaryFromMember, CheckIfHasPrimary, RemoveAndCheck}
use Rattle.topo_rules.specs.declared.event.TopoEvent.{TopoEvent}
use Rattle.topo_rules.specs.declared.kind.TopoKind.TheVariants as topo
use Rattle.topo_rules.specs.declared.maxima.Maxima.{Maxima}
use Rattle.topo_rules.specs.declared.topology.Topology.{Topology}
use Rattle.topo_rules.specs.Cells.{cell_of}
use Rattle.topo_rules.specs.Kinds.{is_known, is_primary}
use Rattle.topo_rules.specs.Laws.{StandsBehind}
use Rattle.topo_rules.specs.Maps.{ServerMap, known_or_new, joined, beside_primary, servers_of_primary}
use Rattle.topo_rules.specs.Primaries.{judged}
use Rattle.topo_rules.specs.Rules.{fresh, name_differs, me_differs, placed, taken_name, update_rs_without_primary, with_verdict, update_rs_from_primary, settled, after}
use Rattle.host_name.proofs.HostOrder.{host_total}
use Rattle.topo_rules.proofs.HostTables.{some_same, same_from_test}
use Rattle.topo_rules.proofs.LawLemmas.{at_tabulate, host-fresh}

-- where the description e of the host x may come from, in a map behind m and an event that says d
abbrev Origin : ServerMap → ServerDescription → Address → ServerDescription → Type 0
Origin m d x e = (e ≡ default_unknown_of x) ⊎ (((x ≡ d.host) × (e ≡ d)) ⊎ ((x ≡ d.host → ⊥) × (map.get m x ≡ Some e)))

abbrev AllOrigin : ServerMap → ServerDescription → ServerMap → Type 0
AllOrigin m d n = (x : Address) (e : ServerDescription) → map.get n x ≡ Some e → Origin m d x e

module _ (m : ServerMap) (d : ServerDescription) where
  -- the map with a description that has an origin put at a host
  origin-insert : (n : ServerMap) (h : Address) (v : ServerDescription) → Origin m d h v → AllOrigin m d n → AllOrigin m d (map.insert n h v)
  origin-insert n h v of_v all x e at = by (eq_by_cmp address_cmp x h) refl (sym (map.get-insert host_total n h v x) ∙ at)
    where
      by : (b : Bool) → eq_by_cmp address_cmp x h ≡ b → cond b (Some v) (map.get n x) ≡ Some e → Origin m d x e
      by true same at = subst (λ f. Origin m d x f) (some_same v e at) (subst (λ y. Origin m d y v) (same_from_test x h same) of_v)
      by false same at = all x e at

  origin-remove : (n : ServerMap) (h : Address) → AllOrigin m d n → AllOrigin m d (map.remove n h)
  origin-remove n h all x e at = by (eq_by_cmp address_cmp x h) (sym (map.get-remove host_total n h x) ∙ at)
    where
      by : (b : Bool) → cond b None (map.get n x) ≡ Some e → Origin m d x e
      by true at = absurd (true≢false (sym (ap is_some at)))
      by false at = all x e at

  origin-known : (n : ServerMap) → AllOrigin m d n → (x : Address) → Origin m d x (known_or_new n x)
  origin-known n all x = by (map.get n x) refl
    where
      by : (o : Option ServerDescription) → map.get n x ≡ o → Origin m d x (unwrap_or o (default_unknown_of x))
      by None at = inl refl
      by (Some e) at = all x e at

  origin-joined : (n : ServerMap) (xs : List Address) → AllOrigin m d n → AllOrigin m d (joined n xs)
  origin-joined n xs all x e at = subst (λ f. Origin m d x f) (at_tabulate (known_or_new n) _ x e at) (origin-known n all x)

  origin-of_primary : (n : ServerMap) → AllOrigin m d n → AllOrigin m d (servers_of_primary n d)
  origin-of_primary n all x e at = subst (λ f. Origin m d x f) (at_tabulate (beside_primary n d) d.listed x e at) (by (is_same_address x d.host) refl)
    where
      rest : (b : Bool) → Origin m d x (if b then default_unknown_of x else known_or_new n x)
      rest true = inl refl
      rest false = origin-known n all x

      by : (b : Bool) → is_same_address x d.host ≡ b → Origin m d x (if b then d else (let old = known_or_new n x in if is_primary old then default_unknown_of x else old))
      by true same = inr (inl (is_same_address-true x d.host same, refl))
      by false same = rest (is_primary (known_or_new n x))

  origin-either : (b : Bool) (n o : ServerMap) → AllOrigin m d n → AllOrigin m d o → AllOrigin m d (if b then n else o)
  origin-either true n o a c = a
  origin-either false n o a c = c

  origin-which : (b : Bool) (t u : Topology) → AllOrigin m d t.servers → AllOrigin m d u.servers → AllOrigin m d (if b then t else u).servers
  origin-which true t u a c = a
  origin-which false t u a c = c

same_from_test' : (x h : Address) → eq_by_cmp address_cmp x h ≡ true → x ≡ h
same_from_test' x h e = sym (same_from_test x h e)

apart_test : (x h : Address) → eq_by_cmp address_cmp x h ≡ false → x ≡ h → ⊥
apart_test x h e p = true≢false (sym (ap is_eq (tied_itself host_total x)) ∙ ap (λ y. eq_by_cmp address_cmp x y) p ∙ e)

module _ (t : Topology) (d : ServerDescription) where
  abbrev n : ServerMap
  n = map.insert t.servers d.host d

  all : AllOrigin t.servers d n
  all x e at = by (eq_by_cmp address_cmp x d.host) refl (sym (map.get-insert host_total t.servers d.host d x) ∙ at)
    where
      by : (b : Bool) → eq_by_cmp address_cmp x d.host ≡ b → cond b (Some d) (map.get t.servers x) ≡ Some e → Origin t.servers d x e
      by true same at = inr (inl (same_from_test' x d.host same, sym (some_same d e at)))
      by false same at = inr (inr (apart_test x d.host same, at))

  gone : AllOrigin t.servers d (map.remove n d.host)
  gone = origin-remove t.servers d n d.host all

  anew : AllOrigin t.servers d (map.insert n d.host (default_unknown_of d.host))
  anew = origin-insert t.servers d n d.host (default_unknown_of d.host) (inl refl) all

  from_verdict : (s : Topology) → s.servers ≡ n → (most : Option Maxima) → AllOrigin t.servers d (with_verdict s d most).servers
  from_verdict s is None = subst (λ k. AllOrigin t.servers d (map.insert k d.host (default_unknown_of d.host))) (sym is) anew
  from_verdict s is (Some most) = subst (λ k. AllOrigin t.servers d (servers_of_primary k d)) (sym is) (origin-of_primary t.servers d n all)

  from_primary : (s : Topology) → s.servers ≡ n → AllOrigin t.servers d (update_rs_from_primary s d).servers
  from_primary s is =
      origin-which t.servers d (name_differs s.set_name d.set_name) _ _
      (subst (λ k. AllOrigin t.servers d (map.remove k d.host)) (sym is) gone)
      (from_verdict (taken_name s d.set_name) is (judged d (record { election = s.max_election; version = s.max_set_version })))

  without_primary : (s : Topology) → s.servers ≡ n → AllOrigin t.servers d (update_rs_without_primary s d).servers
  without_primary s is =
      origin-which t.servers d (name_differs s.set_name d.set_name) _ _
      (subst (λ k. AllOrigin t.servers d (map.remove k d.host)) (sym is) gone)
      (subst (λ k. AllOrigin t.servers d (let all = joined k d.listed in if me_differs d then map.remove all d.host else all)) (sym is)
      (origin-either t.servers d (me_differs d) _ _ (origin-remove t.servers d (joined n d.listed) d.host (origin-joined t.servers d n d.listed all)) (origin-joined t.servers d n d.listed all)))

  in_cell : (cell : Cell) → AllOrigin t.servers d (settled cell (placed t d) d).servers
  in_cell UpdateSingle = origin-which t.servers d (is_known d && name_differs t.set_name d.set_name) _ _ anew all
  in_cell Keep = all
  in_cell Remove = gone
  in_cell UpdateUnknownWithStandalone = origin-which t.servers d _ _ _ all gone
  in_cell BecomeSharded = all
  in_cell BecomeWithPrimary = from_primary (record (placed t d) { kind = topo.WithPrimary }) refl
  in_cell BecomeNoPrimary = without_primary (record (placed t d) { kind = topo.NoPrimary }) refl
  in_cell UpdateFromPrimary = from_primary (placed t d) refl
  in_cell UpdateWithoutPrimary = without_primary (placed t d) refl
  in_cell UpdateWithPrimaryFromMember = origin-which t.servers d (name_differs t.set_name d.set_name || me_differs d) _ _ gone all
  in_cell CheckIfHasPrimary = all
  in_cell RemoveAndCheck = gone

pub stands_behind : (t : Topology) (event : TopoEvent) (x : Address) (e : ServerDescription) → map.get (after t event).servers x ≡ Some e → StandsBehind t event x e
stands_behind t event x e at = by (in_cell t d (cell_of t.kind d.kind) x e at)
  where
    d : ServerDescription
    d = fresh t.servers event

    by : Origin t.servers d x e → StandsBehind t event x e
    by (inl is) = inl is
    by (inr (inl (host, is))) = inr (inl (host ∙ host-fresh t.servers event, is))
    by (inr (inr was)) = inr (inr (λ h. was.0 (h ∙ sym (host-fresh t.servers event)), was.1))
