-- Which hosts an event adds and removes, and how many.
use Rattle.std.proofs.Common.{◌≡◌, ◌⊎◌, inl, inr, ℕ, ◌+◌, ◌≤◌, Bool, true, false, cond, not, ◌&&◌, ◌||◌, if◌then◌else◌, List, [], ◌∷◌, ◌++◌, map, filter, length, Option, None, Some, is_some, refl, sym, ap, subst, ◌∙◌, arith, true≢false}
use Rattle.std.proofs.lemmas.Cmp.{eq_by_cmp_equiv}
use Rattle.std.proofs.lemmas.List.{length-append, length-map}
use Rattle.std.proofs.lemmas.List.Folds.{list_any-append}
use Rattle.std.proofs.lemmas.Map.Keys.{IsDistinct-cons, IsDistinct-from_sorted, IsDistinct-head, IsDistinct-tail}
use Rattle.std.proofs.lemmas.Map.Made.{is_member-filter, length-le_from_is_member}
use Rattle.std.specs.FinMap as map
use Rattle.std.specs.List.{AllByRecursion, IsDistinct, list_any}
use Rattle.std.specs.Ordering.{eq_by_cmp}
use Rattle.std.specs.Set.{is_member}
use Rattle.host_name.specs.Addresses.{Address, address_cmp, is_same_address, is_same_address-same}
use Rattle.hello_reply.specs.declared.server_description.ServerDescription.{ServerDescription}
use Rattle.hello_reply.specs.declared.server_kind.ServerKind.{ServerKind}
use Rattle.hello_reply.specs.declared.server_kind.ServerKind.TheVariants as server
use Rattle.hello_reply.specs.Descriptions.{unknown as default_unknown_of}
use Rattle.topo_rules.specs.declared.cell.Cell.{Cell}
use Rattle.topo_rules.specs.declared.cell.Cell.TheVariants.{UpdateSingle, Keep, Remove, UpdateUnknownWithStandalone, BecomeSharded, BecomeWithPrimary, BecomeNoPrimary, UpdateFromPrimary, UpdateWithoutPrimary, UpdateWithPrimaryFromMember, CheckIfHasPrimary, RemoveAndCheck}
use Rattle.topo_rules.specs.declared.event.TopoEvent.{TopoEvent}
use Rattle.topo_rules.specs.declared.event.TopoEvent.TheVariants.{Reply, Broken, Refused}
use Rattle.topo_rules.specs.declared.kind.TopoKind.{TopoKind}
use Rattle.topo_rules.specs.declared.kind.TopoKind.TheVariants as topo
use Rattle.topo_rules.specs.declared.maxima.Maxima.{Maxima}
use Rattle.topo_rules.specs.declared.topology.Topology.{Topology}
use Rattle.topo_rules.specs.Cells.{cell_of}
use Rattle.topo_rules.specs.Changes.{hosts_beyond, stands}
use Rattle.topo_rules.specs.Kinds.{is_known, is_primary, is_primary_kind}
use Rattle.topo_rules.specs.Laws.{MayRemove, BoundedMoves, is_set_kind, listed_by, most_removed}
use Rattle.topo_rules.specs.Maps.{ServerMap, known_or_new, joined, servers_of_primary}
use Rattle.topo_rules.specs.Primaries.{judged}
use Rattle.topo_rules.specs.Rules.{event_host, fresh, name_differs, me_differs, placed, set_unknown, taken_name, update_rs_without_primary, with_verdict, update_rs_from_primary, settled, after}
use Rattle.host_name.proofs.HostOrder.{host_total, host_ties}
use Rattle.topo_rules.proofs.HostTables.{in_order, same_from_test}
use Rattle.topo_rules.proofs.LawLemmas.{host-fresh, stands-of_primary}
use Rattle.topo_rules.proofs.OutcomeLemmas.{insert-insert, remove-insert}
use Rattle.topo_rules.proofs.Tabulate.{among, get-tabulate}

-- ---- hosts of maps, as tests

or_is : (a b : Bool) → (a || b) ≡ true → (a ≡ true) ⊎ (b ≡ true)
or_is true b e = inl refl
or_is false b e = inr e

or_left : (a b : Bool) → (a || b) ≡ false → a ≡ false
or_left true b e = e
or_left false b e = refl

or_right : (a b : Bool) → (a || b) ≡ false → b ≡ false
or_right true b e = absurd (true≢false e)
or_right false b e = e

and_right : (a b : Bool) → (a && b) ≡ true → b ≡ true
and_right true b e = e
and_right false b e = absurd (true≢false (sym e))

and_left : (a b : Bool) → (a && b) ≡ true → a ≡ true
and_left true b e = refl
and_left false b e = e

not_true : (a : Bool) → not a ≡ true → a ≡ false
not_true true e = absurd (true≢false (sym e))
not_true false e = refl

some_put : {A : Type 0} (b : Bool) (v : A) (o : Option A) → is_some (cond b (Some v) o) ≡ (b || is_some o)
some_put true v o = refl
some_put false v o = refl

some_gone : {A : Type 0} (b : Bool) (o : Option A) → is_some (cond b None o) ≡ (not b && is_some o)
some_gone true o = refl
some_gone false o = refl

some_where : {A : Type 0} (b : Bool) (v : A) → is_some (cond b (Some v) None) ≡ b
some_where true v = refl
some_where false v = refl

stands-insert : (n : ServerMap) (h : Address) (v : ServerDescription) (x : Address) → is_some (map.get (map.insert n h v) x) ≡ (eq_by_cmp address_cmp x h || is_some (map.get n x))
stands-insert n h v x = ap is_some (map.get-insert host_total n h v x) ∙ some_put (eq_by_cmp address_cmp x h) v (map.get n x)

stands-remove : (n : ServerMap) (h x : Address) → is_some (map.get (map.remove n h) x) ≡ (not (eq_by_cmp address_cmp x h) && is_some (map.get n x))
stands-remove n h x = ap is_some (map.get-remove host_total n h x) ∙ some_gone (eq_by_cmp address_cmp x h) (map.get n x)

stands-find : (q : Address) (es : List (Address × ServerDescription)) → is_some (map.find address_cmp q es) ≡ among q (map (λ (e : Address × ServerDescription). e.0) es)
stands-find q [] = refl
stands-find q (e ∷ es) = some_put (eq_by_cmp address_cmp q e.0) e.1 (map.find address_cmp q es) ∙ ap (λ b. eq_by_cmp address_cmp q e.0 || b) (stands-find q es)

stands-keys : (n : ServerMap) (x : Address) → is_some (map.get n x) ≡ among x (map.keys n)
stands-keys n x = ap is_some (map.get-entries n x) ∙ stands-find x (map.entries n)

among-listed : (x : Address) (xs : List Address) → among x xs ≡ list_any (is_same_address x) xs
among-listed x [] = refl
among-listed x (y ∷ xs) = λ i. sym (host_ties x y) i || among-listed x xs i

stands-joined : (n : ServerMap) (xs : List Address) (x : Address) → is_some (map.get (joined n xs) x) ≡ (is_some (map.get n x) || list_any (is_same_address x) xs)
stands-joined n xs x =
    ap is_some (get-tabulate (known_or_new n) x (map.keys n ++ xs)) ∙ some_where (among x (map.keys n ++ xs)) (known_or_new n x)
    ∙ list_any-append (eq_by_cmp address_cmp x) (map.keys n) xs ∙ (λ i. sym (stands-keys n x) i || among-listed x xs i)

-- ---- what an event adds

module _ (m : ServerMap) (d : ServerDescription) (stood : is_some (map.get m d.host) ≡ true) where
  -- each host of the map stood in m or is listed
  abbrev Within : ServerMap → Type 0
  Within n = (x : Address) → is_some (map.get n x) ≡ true → (is_some (map.get m x) ≡ true) ⊎ (list_any (is_same_address x) d.listed ≡ true)

  within-placed : (v : ServerDescription) → Within (map.insert m d.host v)
  within-placed v x at = by (or_is _ _ (sym (stands-insert m d.host v x) ∙ at))
    where
      by : (eq_by_cmp address_cmp x d.host ≡ true) ⊎ (is_some (map.get m x) ≡ true) → (is_some (map.get m x) ≡ true) ⊎ (list_any (is_same_address x) d.listed ≡ true)
      by (inl same) = inl (ap (λ y. is_some (map.get m y)) (sym (same_from_test x d.host same)) ∙ stood)
      by (inr was) = inl was

  within-remove : (n : ServerMap) (h : Address) → Within n → Within (map.remove n h)
  within-remove n h all x at = all x (and_right _ _ (sym (stands-remove n h x) ∙ at))

  within-joined : (n : ServerMap) → Within n → Within (joined n d.listed)
  within-joined n all x at = by (or_is _ _ (sym (stands-joined n d.listed x) ∙ at))
    where
      by : (is_some (map.get n x) ≡ true) ⊎ (list_any (is_same_address x) d.listed ≡ true) → (is_some (map.get m x) ≡ true) ⊎ (list_any (is_same_address x) d.listed ≡ true)
      by (inl was) = all x was
      by (inr is) = inr is

  within-of_primary : (n : ServerMap) → Within (servers_of_primary n d)
  within-of_primary n x at = inr (sym (stands-of_primary n d x) ∙ at)

  within-which : (b : Bool) (t u : Topology) → Within t.servers → Within u.servers → Within (if b then t else u).servers
  within-which true t u a c = a
  within-which false t u a c = c

  within-either : (b : Bool) (n o : ServerMap) → Within n → Within o → Within (if b then n else o)
  within-either true n o a c = a
  within-either false n o a c = c

-- ---- what an event removes

module _ (m : ServerMap) (d : ServerDescription) where
  -- each host of m stands in the map, is the description's own, or is not listed by a primary
  abbrev Stays : ServerMap → Type 0
  Stays n = (x : Address) → is_some (map.get m x) ≡ true → is_some (map.get n x) ≡ false → (x ≡ d.host) ⊎ ((is_primary d ≡ true) × (list_any (is_same_address x) d.listed ≡ false))

  stays-placed : (v : ServerDescription) → Stays (map.insert m d.host v)
  stays-placed v x was gone = absurd (true≢false (sym was ∙ or_right _ _ (sym (stands-insert m d.host v x) ∙ gone)))

  stays-remove : (n : ServerMap) → Stays n → Stays (map.remove n d.host)
  stays-remove n all x was gone = by (eq_by_cmp address_cmp x d.host) refl (sym (stands-remove n d.host x) ∙ gone)
    where
      by : (b : Bool) → eq_by_cmp address_cmp x d.host ≡ b → (not b && is_some (map.get n x)) ≡ false → (x ≡ d.host) ⊎ ((is_primary d ≡ true) × (list_any (is_same_address x) d.listed ≡ false))
      by true same gone = inl (sym (same_from_test x d.host same))
      by false same gone = all x was gone

  stays-joined : (n : ServerMap) (xs : List Address) → Stays n → Stays (joined n xs)
  stays-joined n xs all x was gone = all x was (or_left _ _ (sym (stands-joined n xs x) ∙ gone))

  stays-of_primary : (n : ServerMap) → is_primary d ≡ true → Stays (servers_of_primary n d)
  stays-of_primary n p x was gone = inr (p, sym (stands-of_primary n d x) ∙ gone)

  stays-which : (b : Bool) (t u : Topology) → Stays t.servers → Stays u.servers → Stays (if b then t else u).servers
  stays-which true t u a c = a
  stays-which false t u a c = c

  stays-either : (b : Bool) (n o : ServerMap) → Stays n → Stays o → Stays (if b then n else o)
  stays-either true n o a c = a
  stays-either false n o a c = c

-- ---- cell by cell

module _ (t : Topology) (d : ServerDescription) where
  abbrev n : ServerMap
  n = map.insert t.servers d.host d

  module _ (stood : is_some (map.get t.servers d.host) ≡ true) where
    abbrev W : ServerMap → Type 0
    W k = Within t.servers d stood k

    here : W n
    here = within-placed t.servers d stood d

    less : W (map.remove n d.host)
    less = within-remove t.servers d stood n d.host here

    anew : W (map.insert n d.host (default_unknown_of d.host))
    anew = subst W (sym (insert-insert t.servers d.host d (default_unknown_of d.host))) (within-placed t.servers d stood (default_unknown_of d.host))

    adds-verdict : (s : Topology) → s.servers ≡ n → (most : Option Maxima) → W (with_verdict s d most).servers
    adds-verdict s is None = subst (λ k. W (map.insert k d.host (default_unknown_of d.host))) (sym is) anew
    adds-verdict s is (Some most) = within-of_primary t.servers d stood s.servers

    adds-from_primary : (s : Topology) → s.servers ≡ n → W (update_rs_from_primary s d).servers
    adds-from_primary s is =
        within-which t.servers d stood (name_differs s.set_name d.set_name) _ _
        (subst (λ k. W (map.remove k d.host)) (sym is) less)
        (adds-verdict (taken_name s d.set_name) is (judged d (record { election = s.max_election; version = s.max_set_version })))

    adds-without_primary : (s : Topology) → s.servers ≡ n → W (update_rs_without_primary s d).servers
    adds-without_primary s is =
        within-which t.servers d stood (name_differs s.set_name d.set_name) _ _
        (subst (λ k. W (map.remove k d.host)) (sym is) less)
        (subst (λ k. W (let all = joined k d.listed in if me_differs d then map.remove all d.host else all)) (sym is)
        (within-either t.servers d stood (me_differs d) _ _ (within-remove t.servers d stood (joined n d.listed) d.host (within-joined t.servers d stood n here)) (within-joined t.servers d stood n here)))

    adds : (cell : Cell) → W (settled cell (placed t d) d).servers
    adds UpdateSingle = within-which t.servers d stood (is_known d && name_differs t.set_name d.set_name) _ _ anew here
    adds Keep = here
    adds Remove = less
    adds UpdateUnknownWithStandalone = within-which t.servers d stood _ _ _ here less
    adds BecomeSharded = here
    adds BecomeWithPrimary = adds-from_primary (record (placed t d) { kind = topo.WithPrimary }) refl
    adds BecomeNoPrimary = adds-without_primary (record (placed t d) { kind = topo.NoPrimary }) refl
    adds UpdateFromPrimary = adds-from_primary (placed t d) refl
    adds UpdateWithoutPrimary = adds-without_primary (placed t d) refl
    adds UpdateWithPrimaryFromMember = within-which t.servers d stood (name_differs t.set_name d.set_name || me_differs d) _ _ less here
    adds CheckIfHasPrimary = here
    adds RemoveAndCheck = less

  abbrev S : ServerMap → Type 0
  S k = Stays t.servers d k

  stay : S n
  stay = stays-placed t.servers d d

  gone : S (map.remove n d.host)
  gone = stays-remove t.servers d n stay

  stay_anew : S (map.insert n d.host (default_unknown_of d.host))
  stay_anew = subst S (sym (insert-insert t.servers d.host d (default_unknown_of d.host))) (stays-placed t.servers d (default_unknown_of d.host))

  keeps-verdict : is_primary d ≡ true → (s : Topology) → s.servers ≡ n → (most : Option Maxima) → S (with_verdict s d most).servers
  keeps-verdict p s is None = subst (λ k. S (map.insert k d.host (default_unknown_of d.host))) (sym is) stay_anew
  keeps-verdict p s is (Some most) = stays-of_primary t.servers d s.servers p

  keeps-from_primary : is_primary d ≡ true → (s : Topology) → s.servers ≡ n → S (update_rs_from_primary s d).servers
  keeps-from_primary p s is =
      stays-which t.servers d (name_differs s.set_name d.set_name) _ _
      (subst (λ k. S (map.remove k d.host)) (sym is) gone)
      (keeps-verdict p (taken_name s d.set_name) is (judged d (record { election = s.max_election; version = s.max_set_version })))

  keeps-without_primary : (s : Topology) → s.servers ≡ n → S (update_rs_without_primary s d).servers
  keeps-without_primary s is =
      stays-which t.servers d (name_differs s.set_name d.set_name) _ _
      (subst (λ k. S (map.remove k d.host)) (sym is) gone)
      (subst (λ k. S (let all = joined k d.listed in if me_differs d then map.remove all d.host else all)) (sym is)
      (stays-either t.servers d (me_differs d) _ _ (stays-remove t.servers d (joined n d.listed) (stays-joined t.servers d n d.listed stay)) (stays-joined t.servers d n d.listed stay)))

-- the cell is that of a primary's reply
abbrev is_primary_cell : Cell → Bool
is_primary_cell BecomeWithPrimary = true
is_primary_cell UpdateFromPrimary = true
is_primary_cell _ = false

primary_cells : (k : TopoKind) (s : ServerKind) → is_primary_cell (cell_of k s) ≡ (is_set_kind k && is_primary_kind s)
primary_cells topo.Single s = refl
primary_cells topo.Unknown server.Unknown = refl
primary_cells topo.Unknown server.Standalone = refl
primary_cells topo.Unknown server.Mongos = refl
primary_cells topo.Unknown server.Primary = refl
primary_cells topo.Unknown server.Secondary = refl
primary_cells topo.Unknown server.Arbiter = refl
primary_cells topo.Unknown server.Other = refl
primary_cells topo.Unknown server.Ghost = refl
primary_cells topo.Sharded server.Unknown = refl
primary_cells topo.Sharded server.Standalone = refl
primary_cells topo.Sharded server.Mongos = refl
primary_cells topo.Sharded server.Primary = refl
primary_cells topo.Sharded server.Secondary = refl
primary_cells topo.Sharded server.Arbiter = refl
primary_cells topo.Sharded server.Other = refl
primary_cells topo.Sharded server.Ghost = refl
primary_cells topo.NoPrimary server.Unknown = refl
primary_cells topo.NoPrimary server.Standalone = refl
primary_cells topo.NoPrimary server.Mongos = refl
primary_cells topo.NoPrimary server.Primary = refl
primary_cells topo.NoPrimary server.Secondary = refl
primary_cells topo.NoPrimary server.Arbiter = refl
primary_cells topo.NoPrimary server.Other = refl
primary_cells topo.NoPrimary server.Ghost = refl
primary_cells topo.WithPrimary server.Unknown = refl
primary_cells topo.WithPrimary server.Standalone = refl
primary_cells topo.WithPrimary server.Mongos = refl
primary_cells topo.WithPrimary server.Primary = refl
primary_cells topo.WithPrimary server.Secondary = refl
primary_cells topo.WithPrimary server.Arbiter = refl
primary_cells topo.WithPrimary server.Other = refl
primary_cells topo.WithPrimary server.Ghost = refl

module _ (t : Topology) (d : ServerDescription) where
  keeps : (cell : Cell) → (is_primary_cell cell ≡ true → is_primary d ≡ true) → S t d (settled cell (placed t d) d).servers
  keeps UpdateSingle p = stays-which t.servers d (is_known d && name_differs t.set_name d.set_name) _ _ (stay_anew t d) (stay t d)
  keeps Keep p = stay t d
  keeps Remove p = gone t d
  keeps UpdateUnknownWithStandalone p = stays-which t.servers d _ _ _ (stay t d) (gone t d)
  keeps BecomeSharded p = stay t d
  keeps BecomeWithPrimary p = keeps-from_primary t d (p refl) (record (placed t d) { kind = topo.WithPrimary }) refl
  keeps BecomeNoPrimary p = keeps-without_primary t d (record (placed t d) { kind = topo.NoPrimary }) refl
  keeps UpdateFromPrimary p = keeps-from_primary t d (p refl) (placed t d) refl
  keeps UpdateWithoutPrimary p = keeps-without_primary t d (placed t d) refl
  keeps UpdateWithPrimaryFromMember p = stays-which t.servers d (name_differs t.set_name d.set_name || me_differs d) _ _ (gone t d) (stay t d)
  keeps CheckIfHasPrimary p = stay t d
  keeps RemoveAndCheck p = gone t d

  -- an Unknown is put where it stood, and nothing else is done
  unknown-servers : (k : TopoKind) → is_known d ≡ false → (settled (cell_of k server.Unknown) (placed t d) d).servers ≡ map.insert t.servers d.host d
  unknown-servers topo.Single e = ap (λ b. (if b && name_differs t.set_name d.set_name then set_unknown (placed t d) d.host else placed t d).servers) e
  unknown-servers topo.Unknown e = refl
  unknown-servers topo.Sharded e = refl
  unknown-servers topo.NoPrimary e = refl
  unknown-servers topo.WithPrimary e = refl

listed-fresh : (m : ServerMap) (event : TopoEvent) → (fresh m event).listed ≡ listed_by event
listed-fresh m (Reply description sample) = refl
listed-fresh m (Broken host generation) = refl
listed-fresh m (Refused host version generation shutdown) = refl

pub added_listed : (t : Topology) (event : TopoEvent) (x : Address) → stands t (event_host event) ≡ true → stands t x ≡ false → stands (after t event) x ≡ true → list_any (is_same_address x) (listed_by event) ≡ true
added_listed t event x stood new now =
    by (adds t d (ap (λ h. is_some (map.get t.servers h)) (host-fresh t.servers event) ∙ stood) (cell_of t.kind d.kind) x now)
  where
    d : ServerDescription
    d = fresh t.servers event

    by : (is_some (map.get t.servers x) ≡ true) ⊎ (list_any (is_same_address x) d.listed ≡ true) → list_any (is_same_address x) (listed_by event) ≡ true
    by (inl was) = absurd (true≢false (sym was ∙ new))
    by (inr is) = ap (list_any (is_same_address x)) (sym (listed-fresh t.servers event)) ∙ is

pub removed_may : (t : Topology) (event : TopoEvent) (x : Address) → stands t x ≡ true → stands (after t event) x ≡ false → MayRemove event x
removed_may t (Reply description sample) x was now =
    let d = fresh t.servers (Reply description sample) in
    keeps t d (cell_of t.kind d.kind) (λ e. and_right (is_set_kind t.kind) (is_primary d) (sym (primary_cells t.kind d.kind) ∙ e)) x was now
removed_may t (Broken host generation) x was now =
    absurd (true≢false (sym was ∙ or_right _ _ (sym (ap (λ m. is_some (map.get m x)) (unknown-servers t (fresh t.servers (Broken host generation)) t.kind refl) ∙ stands-insert t.servers host _ x) ∙ now)))
removed_may t (Refused host version generation shutdown) x was now =
    absurd (true≢false (sym was ∙ or_right _ _ (sym (ap (λ m. is_some (map.get m x)) (unknown-servers t (fresh t.servers (Refused host version generation shutdown)) t.kind refl) ∙ stands-insert t.servers host _ x) ∙ now)))

-- ---- how many

all-filter : {K : Type 0} (P : K → Type 0) (p : K → Bool) (ks : List K) → AllByRecursion P ks → AllByRecursion P (filter p ks)
all-filter P p [] h = tt
all-filter P p (k ∷ ks) h = by (p k) (all-filter P p ks h.1)
  where
    by : (b : Bool) → AllByRecursion P (filter p ks) → AllByRecursion P (cond b (k ∷ filter p ks) (filter p ks))
    by true rest = (h.0, rest)
    by false rest = rest

distinct-filter : {K : Type 0} (e : K → K → Bool) (p : K → Bool) (ks : List K) → IsDistinct e ks → IsDistinct e (filter p ks)
distinct-filter e p [] h = h
distinct-filter e p (k ∷ ks) h = by (p k) (distinct-filter e p ks (IsDistinct-tail e k ks h))
  where
    by : (b : Bool) → IsDistinct e (filter p ks) → IsDistinct e (cond b (k ∷ filter p ks) (filter p ks))
    by true rest = IsDistinct-cons e k (filter p ks) (all-filter (λ y. e k y ≡ false) p ks (IsDistinct-head e k ks h)) rest
    by false rest = rest

keys-distinct : (m : ServerMap) → IsDistinct (eq_by_cmp address_cmp) (map.keys m)
keys-distinct m = IsDistinct-from_sorted address_cmp (map.keys m) (in_order m).rise

length-keys : (m : ServerMap) → length (map.keys m) ≡ map.len m
length-keys m = length-map (map.entries m) (λ (e : Address × ServerDescription). e.0) ∙ sym (map.len-entries m)

-- the hosts of one map that the other has not are at most those of a list that has each of them
few-beyond : (m other : ServerMap) (xs : List Address) → ((x : Address) → is_some (map.get m x) ≡ true → is_some (map.get other x) ≡ false → among x xs ≡ true) → length (hosts_beyond m other) ≤ length xs
few-beyond m other xs has =
    length-le_from_is_member (eq_by_cmp_equiv host_total) (hosts_beyond m other) xs (distinct-filter (eq_by_cmp address_cmp) p (map.keys m) (keys-distinct m)) (λ q is. by q (sym (is_member-filter (eq_by_cmp_equiv host_total) p q (alike q) (map.keys m)) ∙ is))
  where
    p : Address → Bool
    p x = not (is_some (map.get other x))

    alike : (q x : Address) → eq_by_cmp address_cmp q x ≡ true → p q ≡ p x
    alike q x same = ap p (sym (same_from_test q x same))

    by : (q : Address) → (is_member (eq_by_cmp address_cmp) (map.keys m) q && p q) ≡ true → among q xs ≡ true
    by q is = has q (stands-keys m q ∙ and_left (among q (map.keys m)) (p q) is) (not_true (is_some (map.get other q)) (and_right (among q (map.keys m)) (p q) is))

pub bounded : (t : Topology) (event : TopoEvent) → stands t (event_host event) ≡ true → BoundedMoves t event (after t event)
bounded t event stood = record {
  added = few-beyond new.servers t.servers (listed_by event) (λ x now was. among-listed x (listed_by event) ∙ added_listed t event x stood was now);
  removed = removed event (λ x was now. removed_may t event x was now);
  stand = subst (λ k. map.len new.servers ≤ k) (length-append (map.keys t.servers) (listed_by event) ∙ ap (λ k. k + length (listed_by event)) (length-keys t.servers))
      (subst (λ k. k ≤ length (map.keys t.servers ++ listed_by event)) (length-keys new.servers)
      (length-le_from_is_member (eq_by_cmp_equiv host_total) (map.keys new.servers) (map.keys t.servers ++ listed_by event) (keys-distinct new.servers) within));
}
  where
    new : Topology
    new = after t event

    within : (q : Address) → is_member (eq_by_cmp address_cmp) (map.keys new.servers) q ≡ true → is_member (eq_by_cmp address_cmp) (map.keys t.servers ++ listed_by event) q ≡ true
    within q is = list_any-append (eq_by_cmp address_cmp q) (map.keys t.servers) (listed_by event) ∙ by (among q (map.keys t.servers)) refl
      where
        by : (b : Bool) → among q (map.keys t.servers) ≡ b → (b || among q (listed_by event)) ≡ true
        by true e = refl
        by false e = among-listed q (listed_by event) ∙ added_listed t event q stood (stands-keys t.servers q ∙ e) (stands-keys new.servers q ∙ is)

    removed : (e : TopoEvent) → ((x : Address) → stands t x ≡ true → stands new x ≡ false → MayRemove e x) → length (hosts_beyond t.servers new.servers) ≤ most_removed t e
    removed (Reply description sample) may = by (is_primary description) refl
      where
        by : (b : Bool) → is_primary description ≡ b → length (hosts_beyond t.servers new.servers) ≤ (if b then map.len t.servers else 1)
        by true p = subst (λ k. length (hosts_beyond t.servers new.servers) ≤ k) (length-keys t.servers) (few-beyond t.servers new.servers (map.keys t.servers) (λ x was now. sym (stands-keys t.servers x) ∙ was))
        by false p = few-beyond t.servers new.servers (description.host ∷ []) (λ x was now. own x (may x was now))
          where
            own : (x : Address) → MayRemove (Reply description sample) x → among x (description.host ∷ []) ≡ true
            own x (inl is) = among-listed x (description.host ∷ []) ∙ ap (λ b. b || false) (is_same_address-same x description.host is)
            own x (inr other) = absurd (true≢false (sym other.0 ∙ p))
    removed (Broken host generation) may = few-beyond t.servers new.servers [] (λ x was now. absurd (may x was now))
    removed (Refused host version generation shutdown) may = few-beyond t.servers new.servers [] (λ x was now. absurd (may x was now))
