-- An event leaves at most one primary, and a kind that tells of it.
use Rattle.std.proofs.Common.{◌≡◌, ℕ, suc, Bool, true, false, cond, ◌&&◌, ◌||◌, if◌then◌else◌, eqb, eqb-true, List, [], ◌∷◌, map, length, Option, None, Some, is_some, refl, sym, ap, subst, ◌∙◌, arith, slice_get, true≢false}
use Rattle.std.specs.FinMap as map
use Rattle.std.specs.List.{list_any}
use Rattle.std.specs.Option.{unwrap_or, option_or}
use Rattle.std.specs.Ordering.{eq_by_cmp}
use Rattle.host_name.specs.Addresses.{Address, address_cmp, is_same_address, is_same_address-true}
use Rattle.hello_reply.specs.declared.server_description.ServerDescription.{ServerDescription}
use Rattle.hello_reply.specs.declared.server_kind.ServerKind.{ServerKind}
use Rattle.hello_reply.specs.declared.server_kind.ServerKind.TheVariants as server
use Rattle.hello_reply.specs.Descriptions.{unknown as default_unknown_of}
use Rattle.topo_rules.specs.declared.event.TopoEvent.{TopoEvent}
use Rattle.topo_rules.specs.declared.event.TopoEvent.TheVariants.{Reply, Broken, Refused}
use Rattle.topo_rules.specs.declared.kind.TopoKind.{TopoKind}
use Rattle.topo_rules.specs.declared.kind.TopoKind.TheVariants as topo
use Rattle.topo_rules.specs.declared.maxima.Maxima.{Maxima}
use Rattle.topo_rules.specs.declared.topology.Topology.{Topology}
use Rattle.topo_rules.specs.Cells.{cell_of}
use Rattle.topo_rules.specs.Changes.{stands}
use Rattle.topo_rules.specs.Kinds.{is_known, is_primary, is_primary_kind}
use Rattle.topo_rules.specs.Laws.{MayStart, behind_event, behind_events, AtMostOnePrimary, KindTellsPrimary, is_set_kind}
use Rattle.topo_rules.specs.Maps.{ServerMap, tabulate, known_or_new, joined, beside_primary, servers_of_primary, has_primary}
use Rattle.topo_rules.specs.Primaries.{judged}
use Rattle.topo_rules.specs.Rules.{opened, event_host, fresh, name_differs, me_differs, placed, without, set_unknown, taken_name, check_if_has_primary, update_rs_without_primary, with_verdict, update_rs_from_primary, settled, after}
use Rattle.host_name.proofs.HostOrder.{host_total, host_ties}
use Rattle.topo_rules.proofs.HostTables.{some_same, same_from_test}
use Rattle.topo_rules.proofs.OutcomeLemmas.{insert-insert, remove-insert}
use Rattle.topo_rules.proofs.Tabulate.{among, get-tabulate, get_at}

-- no server of the map is a primary
abbrev NonePrimary : ServerMap → Type 0
NonePrimary m = (x : Address) (d : ServerDescription) → map.get m x ≡ Some d → is_primary d ≡ false

-- the map has one host at most
abbrev OneHost : ServerMap → Type 0
OneHost m = (x y : Address) → is_some (map.get m x) ≡ true → is_some (map.get m y) ≡ true → x ≡ y

some_is : {A : Type 0} (o : Option A) (d : A) → o ≡ Some d → is_some o ≡ true
some_is o d e = ap is_some e

-- ---- what is said of values, and of hosts

any_at : (p : ServerDescription → Bool) (q : Address) (es : List (Address × ServerDescription)) (d : ServerDescription) → list_any p (map (λ (e : Address × ServerDescription). e.1) es) ≡ false → map.find address_cmp q es ≡ Some d → p d ≡ false
any_at p q [] d none at = absurd (true≢false (sym (ap is_some at)))
any_at p q (e ∷ es) d none at = by (eq_by_cmp address_cmp q e.0) at (left (p e.1) _ none) (any_at p q es d (right (p e.1) _ none))
  where
    left : (a b : Bool) → (a || b) ≡ false → a ≡ false
    left true b h = h
    left false b h = refl

    right : (a b : Bool) → (a || b) ≡ false → b ≡ false
    right true b h = absurd (true≢false h)
    right false b h = h

    by : (b : Bool) → cond b (Some e.1) (map.find address_cmp q es) ≡ Some d → p e.1 ≡ false → (map.find address_cmp q es ≡ Some d → p d ≡ false) → p d ≡ false
    by true at here rest = ap p (sym (some_same e.1 d at)) ∙ here
    by false at here rest = rest at

none_any : (p : ServerDescription → Bool) (es : List (Address × ServerDescription)) → ((i : ℕ) (e : Address × ServerDescription) → slice_get es i ≡ Some e → p e.1 ≡ false) → list_any p (map (λ (e : Address × ServerDescription). e.1) es) ≡ false
none_any p [] fails = refl
none_any p (e ∷ es) fails = (λ i. fails 0 e refl i || none_any p es (λ k f at. fails (suc k) f at) i)

none_from : (m : ServerMap) → has_primary m ≡ false → NonePrimary m
none_from m none x d at = any_at is_primary x (map.entries m) d none (sym (map.get-entries m x) ∙ at)

none_to : (m : ServerMap) → NonePrimary m → has_primary m ≡ false
none_to m none = none_any is_primary (map.entries m) (λ i e at. none e.0 e.1 (get_at m i e at))

alone_none : (m : ServerMap) → NonePrimary m → AtMostOnePrimary m
alone_none m none = record { only = λ x y d e at _ p _. absurd (true≢false (sym p ∙ none x d at)) }

alone_one : (m : ServerMap) → OneHost m → AtMostOnePrimary m
alone_one m one = record { only = λ x y d e at ats _ _. one x y (some_is _ d at) (some_is _ e ats) }

-- ---- a map with one description more, one less

module _ (m : ServerMap) (h : Address) (d : ServerDescription) where
  at_insert : (x : Address) (e : ServerDescription) → map.get (map.insert m h d) x ≡ Some e → (P : ServerDescription → Type 0) → P d → ((map.get m x ≡ Some e) → P e) → P e
  at_insert x e at P here there = by (eq_by_cmp address_cmp x h) (sym (map.get-insert host_total m h d x) ∙ at)
    where
      by : (b : Bool) → cond b (Some d) (map.get m x) ≡ Some e → P e
      by true at = subst P (some_same d e at) here
      by false at = there at

  none-insert : is_primary d ≡ false → NonePrimary m → NonePrimary (map.insert m h d)
  none-insert not_d none x e at = at_insert x e at (λ e. is_primary e ≡ false) not_d (λ was. none x e was)

  alone-insert : is_primary d ≡ false → AtMostOnePrimary m → AtMostOnePrimary (map.insert m h d)
  alone-insert not_d alone = record { only = λ x y e f at ats p q. alone.only x y e f (was x e at p) (was y f ats q) p q }
    where
      was : (x : Address) (e : ServerDescription) → map.get (map.insert m h d) x ≡ Some e → is_primary e ≡ true → map.get m x ≡ Some e
      was x e at p = at_insert x e at (λ e. is_primary e ≡ true → map.get m x ≡ Some e) (λ p. absurd (true≢false (sym p ∙ not_d))) (λ was _. was) p

  one-insert : is_some (map.get m h) ≡ true → OneHost m → OneHost (map.insert m h d)
  one-insert stood one x y a b = one x y (was x a) (was y b)
    where
      was : (x : Address) → is_some (map.get (map.insert m h d) x) ≡ true → is_some (map.get m x) ≡ true
      was x a = by (eq_by_cmp address_cmp x h) refl (sym (ap is_some (map.get-insert host_total m h d x)) ∙ a)
        where
          by : (b : Bool) → eq_by_cmp address_cmp x h ≡ b → is_some (cond b (Some d) (map.get m x)) ≡ true → is_some (map.get m x) ≡ true
          by true same a = ap (λ y. is_some (map.get m y)) (sym (same_from_test x h same)) ∙ stood
          by false same a = a

module _ (m : ServerMap) (h : Address) where
  at_remove : (x : Address) (e : ServerDescription) → map.get (map.remove m h) x ≡ Some e → map.get m x ≡ Some e
  at_remove x e at = by (eq_by_cmp address_cmp x h) (sym (map.get-remove host_total m h x) ∙ at)
    where
      by : (b : Bool) → cond b None (map.get m x) ≡ Some e → map.get m x ≡ Some e
      by true at = absurd (true≢false (sym (ap is_some at)))
      by false at = at

  none-remove : NonePrimary m → NonePrimary (map.remove m h)
  none-remove none x e at = none x e (at_remove x e at)

  alone-remove : AtMostOnePrimary m → AtMostOnePrimary (map.remove m h)
  alone-remove alone = record { only = λ x y e f at ats. alone.only x y e f (at_remove x e at) (at_remove y f ats) }

  one-remove : OneHost m → OneHost (map.remove m h)
  one-remove one x y a b = one x y (was x a) (was y b)
    where
      was : (x : Address) → is_some (map.get (map.remove m h) x) ≡ true → is_some (map.get m x) ≡ true
      was x a = by (eq_by_cmp address_cmp x h) (sym (ap is_some (map.get-remove host_total m h x)) ∙ a)
        where
          by : (b : Bool) → is_some (cond b None (map.get m x)) ≡ true → is_some (map.get m x) ≡ true
          by true a = absurd (true≢false (sym a))
          by false a = a

pub at_tabulate : (f : Address → ServerDescription) (xs : List Address) (x : Address) (e : ServerDescription) → map.get (tabulate xs f) x ≡ Some e → f x ≡ e
at_tabulate f xs x e at = by (among x xs) (sym (get-tabulate f x xs) ∙ at)
  where
    by : (b : Bool) → cond b (Some (f x)) None ≡ Some e → f x ≡ e
    by true at = some_same (f x) e at
    by false at = absurd (true≢false (sym (ap is_some at)))

none-joined : (m : ServerMap) (xs : List Address) → NonePrimary m → NonePrimary (joined m xs)
none-joined m xs none x e at = ap is_primary (sym (at_tabulate (known_or_new m) _ x e at)) ∙ by (map.get m x) refl
  where
    by : (o : Option ServerDescription) → map.get m x ≡ o → is_primary (unwrap_or o (default_unknown_of x)) ≡ false
    by None is = refl
    by (Some d) is = none x d is

alone-of_primary : (m : ServerMap) (d : ServerDescription) → AtMostOnePrimary (servers_of_primary m d)
alone-of_primary m d = record { only = λ x y e f at ats p q. here x e at p ∙ sym (here y f ats q) }
  where
    rest : (x : Address) (b : Bool) (old : ServerDescription) → is_primary old ≡ b → is_primary (if b then default_unknown_of x else old) ≡ false
    rest x true old is = refl
    rest x false old is = is

    by : (x : Address) (b : Bool) → is_same_address x d.host ≡ b → is_primary (if b then d else (let old = known_or_new m x in if is_primary old then default_unknown_of x else old)) ≡ true → x ≡ d.host
    by x true same p = is_same_address-true x d.host same
    by x false same p = absurd (true≢false (sym p ∙ rest x (is_primary (known_or_new m x)) (known_or_new m x) refl))

    here : (x : Address) (e : ServerDescription) → map.get (servers_of_primary m d) x ≡ Some e → is_primary e ≡ true → x ≡ d.host
    here x e at p = by x (is_same_address x d.host) refl (ap is_primary (at_tabulate (beside_primary m d) d.listed x e at) ∙ p)

-- ---- what holds of every topology that is reached

-- of these kinds no server is a primary
abbrev is_without : TopoKind → Bool
is_without topo.Unknown = true
is_without topo.Sharded = true
is_without topo.NoPrimary = true
is_without _ = false

-- of these topologies there is one host at most: Single, and Unknown with one seed
abbrev is_of_one : TopoKind → ℕ → Bool
is_of_one topo.Single seeds = true
is_of_one topo.Unknown seeds = eqb seeds 1
is_of_one _ seeds = false

pub record Sound (t : Topology) : Type 0 where
  pub alone : AtMostOnePrimary t.servers
  pub none : is_without t.kind ≡ true → NonePrimary t.servers
  pub some : t.kind ≡ topo.WithPrimary → has_primary t.servers ≡ true
  pub one : is_of_one t.kind t.seeds ≡ true → OneHost t.servers

abbrev is_with : TopoKind → Bool
is_with topo.WithPrimary = true
is_with _ = false

without_with : (k : TopoKind) → is_without k ≡ true → k ≡ topo.WithPrimary → ⊥
without_with k a e = true≢false (sym a ∙ ap is_without e)

single_with : (k : TopoKind) → k ≡ topo.Single → k ≡ topo.WithPrimary → ⊥
single_with k a e = true≢false (sym (ap is_with e) ∙ ap is_with a)

-- of a kind without a primary
sound-none : (t : Topology) → is_without t.kind ≡ true → NonePrimary t.servers → (is_of_one t.kind t.seeds ≡ true → OneHost t.servers) → Sound t
sound-none t kind none one = record { alone = alone_none t.servers none; none = λ _. none; some = λ e. absurd (without_with t.kind kind e); one = one }

sound-single : (t : Topology) → t.kind ≡ topo.Single → OneHost t.servers → Sound t
sound-single t kind one = record {
  alone = alone_one t.servers one;
  none = λ h. absurd (true≢false (sym h ∙ ap is_without kind));
  some = λ e. absurd (single_with t.kind kind e);
  one = λ _. one;
}

sound-checked : (t : Topology) → AtMostOnePrimary t.servers → Sound (check_if_has_primary t)
sound-checked t alone = by (has_primary t.servers) refl
  where
    by : (b : Bool) → has_primary t.servers ≡ b → Sound (record t { kind = if b then topo.WithPrimary else topo.NoPrimary })
    by true is = record { alone = alone; none = λ h. absurd (true≢false (sym h)); some = λ _. is; one = λ h. absurd (true≢false (sym h)) }
    by false is = record { alone = alone; none = λ _. none_from t.servers is; some = λ e. absurd (without_with topo.NoPrimary refl e); one = λ h. absurd (true≢false (sym h)) }

module _ (t : Topology) (d : ServerDescription) (sound : Sound t) where
  abbrev n : ServerMap
  n = map.insert t.servers d.host d

  gone : AtMostOnePrimary (map.remove n d.host)
  gone = subst AtMostOnePrimary (sym (remove-insert t.servers d.host d)) (alone-remove t.servers d.host sound.alone)

  stale : AtMostOnePrimary (map.insert n d.host (default_unknown_of d.host))
  stale = subst AtMostOnePrimary (sym (insert-insert t.servers d.host d (default_unknown_of d.host))) (alone-insert t.servers d.host (default_unknown_of d.host) refl sound.alone)

  from_primary : (k : TopoKind) → Sound (update_rs_from_primary (record (placed t d) { kind = k }) d)
  from_primary k = sound-checked (if name_differs t.set_name d.set_name then without (record (placed t d) { kind = k }) d.host else with_verdict (taken_name (record (placed t d) { kind = k }) d.set_name) d (judged d (record { election = t.max_election; version = t.max_set_version }))) (by (name_differs t.set_name d.set_name) (judged d (record { election = t.max_election; version = t.max_set_version })))
    where
      by : (b : Bool) (o : Option Maxima) → AtMostOnePrimary (if b then without (record (placed t d) { kind = k }) d.host else with_verdict (taken_name (record (placed t d) { kind = k }) d.set_name) d o).servers
      by true o = gone
      by false None = stale
      by false (Some most) = alone-of_primary n d

  without_primary : is_primary d ≡ false → NonePrimary t.servers → Sound (update_rs_without_primary (record (placed t d) { kind = topo.NoPrimary }) d)
  without_primary not_d none = by (name_differs t.set_name d.set_name)
    where
      put : NonePrimary n
      put = none-insert t.servers d.host d not_d none

      all : NonePrimary (joined n d.listed)
      all = none-joined n d.listed put

      me : (b : Bool) → NonePrimary (if b then map.remove (joined n d.listed) d.host else joined n d.listed)
      me true = none-remove (joined n d.listed) d.host all
      me false = all

      by : (b : Bool) → Sound (if b then without (record (placed t d) { kind = topo.NoPrimary }) d.host
          else (let all = joined n d.listed in
          record (record (placed t d) { kind = topo.NoPrimary }) { set_name = option_or t.set_name d.set_name; servers = if me_differs d then map.remove all d.host else all }))
      by true = sound-none _ refl (none-remove n d.host put) (λ h. absurd (true≢false (sym h)))
      by false = sound-none _ refl (me (me_differs d)) (λ h. absurd (true≢false (sym h)))

module _ (t : Topology) (d : ServerDescription) (sound : Sound t) (stood : is_some (map.get t.servers d.host) ≡ true) where
  not_so : {P : Type 0} → false ≡ true → P
  not_so h = absurd (true≢false (sym h))

  -- the description is put in a topology of a kind without a primary
  kept : (k : TopoKind) → t.kind ≡ k → is_without k ≡ true → is_primary d ≡ false → Sound (placed t d)
  kept k kind w not_d =
      sound-none (placed t d) (ap is_without kind ∙ w) (none-insert t.servers d.host d not_d (sound.none (ap is_without kind ∙ w)))
      (λ o. one-insert t.servers d.host d stood (sound.one o))

  removed : (k : TopoKind) → t.kind ≡ k → is_without k ≡ true → Sound (without (placed t d) d.host)
  removed k kind w =
      sound-none (without (placed t d) d.host) (ap is_without kind ∙ w)
      (subst NonePrimary (sym (remove-insert t.servers d.host d)) (none-remove t.servers d.host (sound.none (ap is_without kind ∙ w))))
      (λ o. subst OneHost (sym (remove-insert t.servers d.host d)) (one-remove t.servers d.host (sound.one o)))

  sharded : (k : TopoKind) → t.kind ≡ k → is_without k ≡ true → is_primary d ≡ false → Sound (record (placed t d) { kind = topo.Sharded })
  sharded k kind w not_d =
      sound-none (record (placed t d) { kind = topo.Sharded }) refl (none-insert t.servers d.host d not_d (sound.none (ap is_without kind ∙ w))) not_so

  single : t.kind ≡ topo.Single → Sound (settled (cell_of topo.Single d.kind) (placed t d) d)
  single kind = by (is_known d && name_differs t.set_name d.set_name)
    where
      one : OneHost (map.insert t.servers d.host d)
      one = one-insert t.servers d.host d stood (sound.one (ap (λ k. is_of_one k t.seeds) kind))

      by : (b : Bool) → Sound (if b then set_unknown (placed t d) d.host else placed t d)
      by true =
          sound-single (set_unknown (placed t d) d.host) kind
          (subst OneHost (sym (insert-insert t.servers d.host d (default_unknown_of d.host))) (one-insert t.servers d.host (default_unknown_of d.host) stood (sound.one (ap (λ k. is_of_one k t.seeds) kind))))
      by false = sound-single (placed t d) kind one

  standalone : t.kind ≡ topo.Unknown → Sound (if eqb t.seeds 1 then record (placed t d) { kind = topo.Single } else without (placed t d) d.host)
  standalone kind = by (eqb t.seeds 1) refl
    where
      by : (b : Bool) → eqb t.seeds 1 ≡ b → Sound (if b then record (placed t d) { kind = topo.Single } else without (placed t d) d.host)
      by true is = sound-single (record (placed t d) { kind = topo.Single }) refl (one-insert t.servers d.host d stood (sound.one (ap (λ k. is_of_one k t.seeds) kind ∙ is)))
      by false is = removed topo.Unknown kind refl

  checked_kept : is_primary d ≡ false → Sound (check_if_has_primary (placed t d))
  checked_kept not_d = sound-checked (placed t d) (alone-insert t.servers d.host d not_d sound.alone)

  checked_removed : Sound (check_if_has_primary (without (placed t d) d.host))
  checked_removed = sound-checked (without (placed t d) d.host) (gone t d sound)

  member : is_primary d ≡ false → Sound (check_if_has_primary (if name_differs t.set_name d.set_name || me_differs d then without (placed t d) d.host else placed t d))
  member not_d = by (name_differs t.set_name d.set_name || me_differs d)
    where
      by : (b : Bool) → Sound (check_if_has_primary (if b then without (placed t d) d.host else placed t d))
      by true = checked_removed
      by false = checked_kept not_d

  -- a topology of the kind that it has
  ats_kind : (k : TopoKind) → t.kind ≡ k → (P : Topology → Type 0) → P (record (placed t d) { kind = k }) → P (placed t d)
  ats_kind k kind P p = subst (λ j. P (record (placed t d) { kind = j })) (sym kind) p

  in_kind : (k : TopoKind) → t.kind ≡ k → (s : ServerKind) → d.kind ≡ s → Sound (settled (cell_of k s) (placed t d) d)
  in_kind topo.Single kind s is = single kind
  in_kind topo.Unknown kind server.Unknown is = kept topo.Unknown kind refl (ap is_primary_kind is)
  in_kind topo.Unknown kind server.Ghost is = kept topo.Unknown kind refl (ap is_primary_kind is)
  in_kind topo.Unknown kind server.Standalone is = standalone kind
  in_kind topo.Unknown kind server.Mongos is = sharded topo.Unknown kind refl (ap is_primary_kind is)
  in_kind topo.Unknown kind server.Primary is = from_primary t d sound topo.WithPrimary
  in_kind topo.Unknown kind server.Secondary is = without_primary t d sound (ap is_primary_kind is) (sound.none (ap is_without kind))
  in_kind topo.Unknown kind server.Arbiter is = without_primary t d sound (ap is_primary_kind is) (sound.none (ap is_without kind))
  in_kind topo.Unknown kind server.Other is = without_primary t d sound (ap is_primary_kind is) (sound.none (ap is_without kind))
  in_kind topo.Sharded kind server.Unknown is = kept topo.Sharded kind refl (ap is_primary_kind is)
  in_kind topo.Sharded kind server.Mongos is = kept topo.Sharded kind refl (ap is_primary_kind is)
  in_kind topo.Sharded kind server.Standalone is = removed topo.Sharded kind refl
  in_kind topo.Sharded kind server.Primary is = removed topo.Sharded kind refl
  in_kind topo.Sharded kind server.Secondary is = removed topo.Sharded kind refl
  in_kind topo.Sharded kind server.Arbiter is = removed topo.Sharded kind refl
  in_kind topo.Sharded kind server.Other is = removed topo.Sharded kind refl
  in_kind topo.Sharded kind server.Ghost is = removed topo.Sharded kind refl
  in_kind topo.NoPrimary kind server.Unknown is = kept topo.NoPrimary kind refl (ap is_primary_kind is)
  in_kind topo.NoPrimary kind server.Ghost is = kept topo.NoPrimary kind refl (ap is_primary_kind is)
  in_kind topo.NoPrimary kind server.Standalone is = removed topo.NoPrimary kind refl
  in_kind topo.NoPrimary kind server.Mongos is = removed topo.NoPrimary kind refl
  in_kind topo.NoPrimary kind server.Primary is = from_primary t d sound topo.WithPrimary
  in_kind topo.NoPrimary kind server.Secondary is = ats_kind topo.NoPrimary kind (λ u. Sound (update_rs_without_primary u d)) (without_primary t d sound (ap is_primary_kind is) (sound.none (ap is_without kind)))
  in_kind topo.NoPrimary kind server.Arbiter is = ats_kind topo.NoPrimary kind (λ u. Sound (update_rs_without_primary u d)) (without_primary t d sound (ap is_primary_kind is) (sound.none (ap is_without kind)))
  in_kind topo.NoPrimary kind server.Other is = ats_kind topo.NoPrimary kind (λ u. Sound (update_rs_without_primary u d)) (without_primary t d sound (ap is_primary_kind is) (sound.none (ap is_without kind)))
  in_kind topo.WithPrimary kind server.Unknown is = checked_kept (ap is_primary_kind is)
  in_kind topo.WithPrimary kind server.Ghost is = checked_kept (ap is_primary_kind is)
  in_kind topo.WithPrimary kind server.Standalone is = checked_removed
  in_kind topo.WithPrimary kind server.Mongos is = checked_removed
  in_kind topo.WithPrimary kind server.Primary is = ats_kind topo.WithPrimary kind (λ u. Sound (update_rs_from_primary u d)) (from_primary t d sound topo.WithPrimary)
  in_kind topo.WithPrimary kind server.Secondary is = member (ap is_primary_kind is)
  in_kind topo.WithPrimary kind server.Arbiter is = member (ap is_primary_kind is)
  in_kind topo.WithPrimary kind server.Other is = member (ap is_primary_kind is)

pub host-fresh : (m : ServerMap) (event : TopoEvent) → (fresh m event).host ≡ event_host event
host-fresh m (Reply description sample) = refl
host-fresh m (Broken host generation) = refl
host-fresh m (Refused host version generation shutdown) = refl

after-sound : (t : Topology) (event : TopoEvent) → Sound t → stands t (event_host event) ≡ true → Sound (after t event)
after-sound t event sound stood =
    in_kind t (fresh t.servers event) sound (ap (λ h. is_some (map.get t.servers h)) (host-fresh t.servers event) ∙ stood) t.kind refl (fresh t.servers event).kind refl

event-sound : (t : Topology) (event : TopoEvent) → Sound t → Sound (behind_event t event)
event-sound t event sound = by (stands t (event_host event)) refl
  where
    by : (b : Bool) → stands t (event_host event) ≡ b → Sound (if b then after t event else t)
    by true stood = after-sound t event sound stood
    by false stood = sound

events-sound : (t : Topology) (events : List TopoEvent) → Sound t → Sound (behind_events t events)
events-sound t [] sound = sound
events-sound t (event ∷ events) sound = events-sound (behind_event t event) events (event-sound t event sound)

opened-sound : (hosts : List Address) (name : Option (List ℕ)) (direct : Bool) → MayStart hosts direct → Sound (opened hosts name direct)
opened-sound hosts name direct may = by direct may name
  where
    none : NonePrimary (tabulate hosts default_unknown_of)
    none x d at = ap is_primary (sym (at_tabulate default_unknown_of hosts x d at))

    of_one : (xs : List Address) → length xs ≡ 1 → OneHost (tabulate xs default_unknown_of)
    of_one [] e = absurd (omega (arith, e))
    of_one (z ∷ []) e = λ x y a b. is x a ∙ sym (is y b)
      where
        is : (x : Address) → is_some (map.get (tabulate (z ∷ []) default_unknown_of) x) ≡ true → x ≡ z
        is x a = by (eq_by_cmp address_cmp x z) refl (sym (ap is_some (get-tabulate default_unknown_of x (z ∷ []))) ∙ a)
          where
            by : (b : Bool) → eq_by_cmp address_cmp x z ≡ b → is_some (cond (b || false) (Some (default_unknown_of x)) None) ≡ true → x ≡ z
            by true same a = sym (same_from_test x z same)
            by false same a = absurd (true≢false (sym a))
    of_one (z ∷ w ∷ xs) e = absurd (omega (arith, e))

    by : (direct : Bool) → MayStart hosts direct → (name : Option (List ℕ)) → Sound (opened hosts name direct)
    by true may name = sound-single (opened hosts name true) refl (of_one hosts (may.one refl))
    by false may None = sound-none (opened hosts None false) refl none (λ o. of_one hosts (eqb-true (length hosts) 1 o))
    by false may (Some given) = sound-none (opened hosts (Some given) false) refl none (λ o. absurd (true≢false (sym o)))

pub one_primary : (hosts : List Address) (name : Option (List ℕ)) (direct : Bool) (events : List TopoEvent) → MayStart hosts direct → AtMostOnePrimary (behind_events (opened hosts name direct) events).servers
one_primary hosts name direct events may = (events-sound (opened hosts name direct) events (opened-sound hosts name direct may)).alone

pub kind_tells : (hosts : List Address) (name : Option (List ℕ)) (direct : Bool) (events : List TopoEvent) → MayStart hosts direct → KindTellsPrimary (behind_events (opened hosts name direct) events)
kind_tells hosts name direct events may =
    let sound = events-sound (opened hosts name direct) events (opened-sound hosts name direct may) in
    record { with_primary = sound.some; no_primary = λ e. none_to (behind_events (opened hosts name direct) events).servers (sound.none (ap is_without e)) }

-- ---- the hosts behind a primary

pub stands-of_primary : (m : ServerMap) (d : ServerDescription) (x : Address) → is_some (map.get (servers_of_primary m d) x) ≡ list_any (is_same_address x) d.listed
stands-of_primary m d x = ap is_some (get-tabulate (beside_primary m d) x d.listed) ∙ plain (among x d.listed) ∙ same d.listed
  where
    plain : (b : Bool) → is_some (cond b (Some (beside_primary m d x)) None) ≡ b
    plain true = refl
    plain false = refl

    same : (xs : List Address) → among x xs ≡ list_any (is_same_address x) xs
    same [] = refl
    same (y ∷ xs) = λ i. sym (host_ties x y) i || same xs i

pub listed_stand : (t : Topology) (description : ServerDescription) (sample : ℕ) (most : Maxima) (x : Address) → description.kind ≡ server.Primary → is_set_kind t.kind ≡ true
    → name_differs t.set_name description.set_name ≡ false → judged description (record { election = t.max_election; version = t.max_set_version }) ≡ Some most
    → stands (after t (Reply description sample)) x ≡ list_any (is_same_address x) description.listed
listed_stand t description sample most x kind set name verdict = by t.kind refl set (fresh t.servers (Reply description sample)).kind kind
  where
    d : ServerDescription
    d = fresh t.servers (Reply description sample)

    taken : (k : TopoKind) → stands (update_rs_from_primary (record (placed t d) { kind = k }) d) x ≡ list_any (is_same_address x) description.listed
    taken k =
        ap (λ b. stands (if b then without (record (placed t d) { kind = k }) d.host else with_verdict (taken_name (record (placed t d) { kind = k }) d.set_name) d (judged d (record { election = t.max_election; version = t.max_set_version }))) x) name
        ∙ ap (λ o. stands (with_verdict (taken_name (record (placed t d) { kind = k }) d.set_name) d o) x) verdict
        ∙ stands-of_primary (map.insert t.servers d.host d) d x

    by : (k : TopoKind) → t.kind ≡ k → is_set_kind k ≡ true → (s : ServerKind) → s ≡ server.Primary → stands (settled (cell_of k s) (placed t d) d) x ≡ list_any (is_same_address x) description.listed
    by topo.Single e h s p = absurd (true≢false (sym h))
    by topo.Sharded e h s p = absurd (true≢false (sym h))
    by topo.Unknown e h s p = subst (λ s. stands (settled (cell_of topo.Unknown s) (placed t d) d) x ≡ list_any (is_same_address x) description.listed) (sym p) (taken topo.WithPrimary)
    by topo.NoPrimary e h s p = subst (λ s. stands (settled (cell_of topo.NoPrimary s) (placed t d) d) x ≡ list_any (is_same_address x) description.listed) (sym p) (taken topo.WithPrimary)
    by topo.WithPrimary e h s p = subst (λ s. stands (settled (cell_of topo.WithPrimary s) (placed t d) d) x ≡ list_any (is_same_address x) description.listed) (sym p) (taken t.kind)
