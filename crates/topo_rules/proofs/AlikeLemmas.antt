-- What an event leaves as it was: beside its host, a server that keeps its kind is as it was before.
use Rattle.std.proofs.Common.{◌≡◌, ℕ, Bool, true, false, cond, ◌||◌, ◌&&◌, if◌then◌else◌, List, Option, None, Some, is_some, refl, sym, ap, subst, ◌∙◌, slice_get, option_map, true≢false}
use Rattle.std.proofs.lemmas.Option.{slice_get-map}
use Rattle.std.specs.FinMap as map
use Rattle.std.specs.Option.{unwrap_or}
use Rattle.std.specs.Ordering.{eq_by_cmp}
use Rattle.host_name.specs.Addresses.{Address, address_cmp, is_same_address, is_same_address-true}
use Rattle.hello_reply.specs.declared.server_description.ServerDescription.{ServerDescription}
use Rattle.hello_reply.specs.Descriptions.{unknown as default_unknown_of}
use Rattle.topo_rules.specs.declared.cell.Cell.{Cell}
use Rattle.topo_rules.specs.declared.cell.Cell.TheVariants.{UpdateSingle, Keep, Remove, UpdateUnknownWithStandalone, BecomeSharded, BecomeWithPrimary, BecomeNoPrimary, UpdateFromPrimary, UpdateWithoutPrimary, UpdateWithPrimaryFromMember, CheckIfHasPrimary, RemoveAndCheck}
use Rattle.topo_rules.specs.declared.event.TopoEvent.{TopoEvent}
use Rattle.topo_rules.specs.declared.event.TopoEvent.TheVariants.{Reply, Broken, Refused}
use Rattle.topo_rules.specs.declared.kind.TopoKind.TheVariants as topo
use Rattle.topo_rules.specs.declared.maxima.Maxima.{Maxima}
use Rattle.topo_rules.specs.declared.topology.Topology.{Topology}
use Rattle.topo_rules.specs.Cells.{cell_of}
use Rattle.topo_rules.specs.Changes.{AlikeBeside, meanless, plain}
use Rattle.topo_rules.specs.Kinds.{is_known, is_primary, is_primary_kind}
use Rattle.topo_rules.specs.Maps.{ServerMap, tabulate, known_or_new, joined, beside_primary, servers_of_primary}
use Rattle.topo_rules.specs.Primaries.{judged}
use Rattle.topo_rules.specs.Rules.{event_host, fresh, name_differs, me_differs, placed, taken_name, update_rs_without_primary, with_verdict, update_rs_from_primary, settled, after}
use Rattle.host_name.proofs.HostOrder.{host_total}
use Rattle.topo_rules.proofs.HostTables.{some_same, same_from_test}
use Rattle.topo_rules.proofs.Tabulate.{among, get-tabulate, get_at}

other-test : (x host : Address) → (x ≡ host → ⊥) → eq_by_cmp address_cmp x host ≡ false
other-test x host apart = by (eq_by_cmp address_cmp x host) refl
  where
    by : (b : Bool) → eq_by_cmp address_cmp x host ≡ b → b ≡ false
    by true e = absurd (apart (sym (same_from_test x host e)))
    by false e = refl

-- what AlikeBeside says
abbrev Alike : Address → ServerMap → ServerMap → Type 0
Alike host m n = (x : Address) (d e : ServerDescription) → (x ≡ host → ⊥) → map.get m x ≡ Some d → map.get n x ≡ Some e → d.kind ≡ e.kind → d ≡ e

-- the two maps say the same of each host but one
abbrev SameBeside : Address → ServerMap → ServerMap → Type 0
SameBeside host m n = (x : Address) → (x ≡ host → ⊥) → map.get n x ≡ map.get m x

module _ (host : Address) (m : ServerMap) where
  same-insert : (d : ServerDescription) → SameBeside host m (map.insert m host d)
  same-insert d x apart = map.get-insert host_total m host d x ∙ ap (λ b. cond b (Some d) (map.get m x)) (other-test x host apart)

  alike-same : (n : ServerMap) → SameBeside host m n → Alike host m n
  alike-same n same x d e apart was is kinds = some_same d e (sym was ∙ sym (same x apart) ∙ is)

  alike-remove : (n : ServerMap) (y : Address) → Alike host m n → Alike host m (map.remove n y)
  alike-remove n y alike x d e apart was is kinds =
      alike x d e apart was (by (eq_by_cmp address_cmp x y) (sym (map.get-remove host_total n y x) ∙ is)) kinds
    where
      by : (b : Bool) → cond b None (map.get n x) ≡ Some e → map.get n x ≡ Some e
      by true h = absurd (true≢false (sym (ap is_some h)))
      by false h = h

  alike-insert : (n : ServerMap) (v : ServerDescription) → Alike host m n → Alike host m (map.insert n host v)
  alike-insert n v alike x d e apart was is kinds =
      alike x d e apart was (ap (λ b. cond b (Some v) (map.get n x)) (sym (other-test x host apart)) ∙ sym (map.get-insert host_total n host v x) ∙ is) kinds

  alike-tabulate : (f : Address → ServerDescription) (xs : List Address)
      → ((x : Address) (d : ServerDescription) → (x ≡ host → ⊥) → map.get m x ≡ Some d → d.kind ≡ (f x).kind → d ≡ f x)
      → Alike host m (tabulate xs f)
  alike-tabulate f xs kept x d e apart was is kinds = by (among x xs) (sym (get-tabulate f x xs) ∙ is)
    where
      by : (b : Bool) → cond b (Some (f x)) None ≡ Some e → d ≡ e
      by true h = let same : f x ≡ e = some_same (f x) e h in kept x d apart was (kinds ∙ ap (λ z. z.kind) (sym same)) ∙ same
      by false h = absurd (true≢false (sym (ap is_some h)))

  -- what the other map knows of another host that this one has
  known : (n : ServerMap) → SameBeside host m n → (x : Address) (d : ServerDescription) → (x ≡ host → ⊥) → map.get m x ≡ Some d → d ≡ known_or_new n x
  known n same x d apart was = sym (ap (λ o. unwrap_or o (default_unknown_of x)) (same x apart ∙ was))

  alike-joined : (n : ServerMap) (hosts : List Address) → SameBeside host m n → Alike host m (joined n hosts)
  alike-joined n hosts same = alike-tabulate (known_or_new n) _ (λ x d apart was kinds. known n same x d apart was)

  alike-of_primary : (n : ServerMap) (p : ServerDescription) → p.host ≡ host → SameBeside host m n → Alike host m (servers_of_primary n p)
  alike-of_primary n p is_host same = alike-tabulate (beside_primary n p) p.listed (λ x d apart was. elsewhere x d apart (known n same x d apart was) (is_same_address x p.host) refl)
    where
      still : (x : Address) (d old : ServerDescription) → d ≡ old → (b : Bool) → is_primary old ≡ b
          → d.kind ≡ (if b then default_unknown_of x else old).kind → d ≡ (if b then default_unknown_of x else old)
      still x d old is true primary kinds = absurd (true≢false (sym primary ∙ sym (ap is_primary is) ∙ ap is_primary_kind kinds))
      still x d old is false primary kinds = is

      elsewhere : (x : Address) (d : ServerDescription) → (x ≡ host → ⊥) → d ≡ known_or_new n x → (b : Bool) → is_same_address x p.host ≡ b
          → d.kind ≡ (if b then p else (let old = known_or_new n x in if is_primary old then default_unknown_of x else old)).kind
          → d ≡ (if b then p else (let old = known_or_new n x in if is_primary old then default_unknown_of x else old))
      elsewhere x d apart is true at kinds = absurd (apart (is_same_address-true x p.host at ∙ is_host))
      elsewhere x d apart is false at kinds = still x d (known_or_new n x) is (is_primary (known_or_new n x)) refl kinds

  either : (b : Bool) (n o : ServerMap) → Alike host m n → Alike host m o → Alike host m (if b then n else o)
  either true n o a c = a
  either false n o a c = c

  which : (b : Bool) (t u : Topology) → Alike host m t.servers → Alike host m u.servers → Alike host m (if b then t else u).servers
  which true t u a c = a
  which false t u a c = c

-- the rules, over a topology that has the description already
module _ (m : ServerMap) (d : ServerDescription) where
  alike-with_verdict : (s : Topology) (most : Option Maxima) → SameBeside d.host m s.servers → Alike d.host m (with_verdict s d most).servers
  alike-with_verdict s None same = alike-insert d.host m s.servers (default_unknown_of d.host) (alike-same d.host m s.servers same)
  alike-with_verdict s (Some most) same = alike-of_primary d.host m s.servers d refl same

  alike-from_primary : (s : Topology) → SameBeside d.host m s.servers → Alike d.host m (update_rs_from_primary s d).servers
  alike-from_primary s same =
      which d.host m (name_differs s.set_name d.set_name) _ _
      (alike-remove d.host m s.servers d.host (alike-same d.host m s.servers same))
      (alike-with_verdict (taken_name s d.set_name) (judged d (record { election = s.max_election; version = s.max_set_version })) same)

  alike-without_primary : (s : Topology) → SameBeside d.host m s.servers → Alike d.host m (update_rs_without_primary s d).servers
  alike-without_primary s same =
      let all = joined s.servers d.listed in
      let joined_alike = alike-joined d.host m s.servers d.listed same in
      which d.host m (name_differs s.set_name d.set_name) _ _
      (alike-remove d.host m s.servers d.host (alike-same d.host m s.servers same))
      (either d.host m (me_differs d) (map.remove all d.host) all (alike-remove d.host m all d.host joined_alike) joined_alike)

alike-settled : (t : Topology) (d : ServerDescription) (cell : Cell) → Alike d.host t.servers (settled cell (placed t d) d).servers
alike-settled t d cell = by cell
  where
    n : ServerMap
    n = map.insert t.servers d.host d

    same : SameBeside d.host t.servers n
    same = same-insert d.host t.servers d

    kept : Alike d.host t.servers n
    kept = alike-same d.host t.servers n same

    gone : Alike d.host t.servers (map.remove n d.host)
    gone = alike-remove d.host t.servers n d.host kept

    by : (cell : Cell) → Alike d.host t.servers (settled cell (placed t d) d).servers
    by UpdateSingle = which d.host t.servers (is_known d && name_differs t.set_name d.set_name) _ _ (alike-insert d.host t.servers n (default_unknown_of d.host) kept) kept
    by Keep = kept
    by Remove = gone
    by UpdateUnknownWithStandalone = which d.host t.servers _ _ _ kept gone
    by BecomeSharded = kept
    by BecomeWithPrimary = alike-from_primary t.servers d (record (placed t d) { kind = topo.WithPrimary }) same
    by BecomeNoPrimary = alike-without_primary t.servers d (record (placed t d) { kind = topo.NoPrimary }) same
    by UpdateFromPrimary = alike-from_primary t.servers d (placed t d) same
    by UpdateWithoutPrimary = alike-without_primary t.servers d (placed t d) same
    by UpdateWithPrimaryFromMember = which d.host t.servers (name_differs t.set_name d.set_name || me_differs d) _ _ gone kept
    by CheckIfHasPrimary = kept
    by RemoveAndCheck = gone

host-fresh : (m : ServerMap) (event : TopoEvent) → (fresh m event).host ≡ event_host event
host-fresh m (Reply description sample) = refl
host-fresh m (Broken host generation) = refl
host-fresh m (Refused host version generation shutdown) = refl

pub after-alike : (t : Topology) (event : TopoEvent) → AlikeBeside (event_host event) t.servers (after t event).servers
after-alike t event =
    let d = fresh t.servers event in
    record { alike = subst (λ h. Alike h t.servers (after t event).servers) (host-fresh t.servers event) (alike-settled t d (cell_of t.kind d.kind)) }

-- two entries at one place, of another host
pub alike-at : (host : Address) (m n : ServerMap) (i : ℕ) (a b : Address × ServerDescription) → AlikeBeside host m n
    → slice_get (map.entries m) i ≡ Some a → slice_get (map.entries n) i ≡ Some b → a.0 ≡ b.0 → (a.0 ≡ host → ⊥) → a.1.kind ≡ b.1.kind → a.1 ≡ b.1
alike-at host m n i a b alike at other_at hosts apart kinds =
    alike.alike a.0 a.1 b.1 apart (get_at m i a at) (ap (map.get n) hosts ∙ get_at n i b other_at) kinds

abbrev opener : Address × ServerDescription → Address × ServerDescription
opener e = (e.0, meanless e.1)

plain-at : (m : ServerMap) (i : ℕ) → slice_get (plain m) i ≡ option_map opener (slice_get (map.entries m) i)
plain-at m i = slice_get-map opener (map.entries m) i

module _ (m n : ServerMap) (i : ℕ) where
  pub none_at : slice_get (map.entries m) i ≡ None → slice_get (map.entries n) i ≡ None → slice_get (plain m) i ≡ slice_get (plain n) i
  none_at at other_at = plain-at m i ∙ ap (option_map opener) (at ∙ sym other_at) ∙ sym (plain-at n i)

  pub one_at : (a : Address × ServerDescription) → slice_get (map.entries m) i ≡ Some a → slice_get (map.entries n) i ≡ None → slice_get (plain m) i ≡ slice_get (plain n) i → ⊥
  one_at a at other_at e =
      true≢false (ap is_some (sym (ap (option_map opener) at) ∙ sym (plain-at m i) ∙ e ∙ plain-at n i ∙ ap (option_map opener) other_at))

  module _ (a b : Address × ServerDescription) (at : slice_get (map.entries m) i ≡ Some a) (other_at : slice_get (map.entries n) i ≡ Some b) where
    pub both-at : slice_get (plain m) i ≡ slice_get (plain n) i → opener a ≡ opener b
    both-at e = some_same (opener a) (opener b) (sym (ap (option_map opener) at) ∙ sym (plain-at m i) ∙ e ∙ plain-at n i ∙ ap (option_map opener) other_at)

    pub same-at : a.0 ≡ b.0 → meanless a.1 ≡ meanless b.1 → slice_get (plain m) i ≡ slice_get (plain n) i
    same-at hosts told =
        plain-at m i ∙ ap (option_map opener) at ∙ (λ j. Some (hosts j, told j)) ∙ sym (ap (option_map opener) other_at) ∙ sym (plain-at n i)
