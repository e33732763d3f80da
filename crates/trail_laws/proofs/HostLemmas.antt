-- Each host of the topology stands with a number, or is to be named.
use Rattle.std.proofs.Common.{◌≡◌, ◌<◌, ◌⊎◌, inl, inr, ℕ, ◌+◌, Bool, true, false, not, cond, ◌||◌, zero, suc, List, [], ◌∷◌, ◌++◌, map, filter, length, drop, Option, None, Some, is_some, refl, sym, ap, ◌∙◌, subst, arith}
use Rattle.std.specs.FinMap as map
use Rattle.std.specs.Prelude.{slice_get, filter_map, if◌then◌else◌}
use Rattle.std.specs.List.{cons_option}
use Rattle.std.specs.Option.{option_and_then}
use Rattle.std.specs.Ordering.{eq_by_cmp}
use Rattle.std.proofs.lemmas.List.{length-append, length-set}
use Rattle.entry_judge.specs.Judge.{Legal, state_after}
use Rattle.entry_judge.specs.declared.timed.Timed.{Timed}
use Rattle.host_name.specs.Addresses.{Address, address_cmp}
use Rattle.hello_reply.specs.Descriptions.{unknown as default_unknown_of}
use Rattle.topo_rules.specs.Changes.{cleared_after, hosts_beyond, ready_after}
use Rattle.topo_rules.specs.Rules as rules
use Rattle.topo_rules.specs.declared.event.TopoEvent.{TopoEvent}
use Rattle.topo_rules.specs.declared.topology.Topology.{Topology}
use Rattle.topo_rules.proofs.HostTables.{same_from_test}
use Rattle.topo_rules.proofs.Tabulate.{among, get-tabulate}
use Rattle.topo_book.specs.Fresh.{is_accepted_verdict}
use Rattle.desk_trail.specs.declared.entry.OfferedHow.{OfferedHow}
use Rattle.desk_trail.specs.Checks.{asked, leaves}
use Rattle.desk_trail.specs.Clients.{Client}
use Rattle.desk_trail.specs.Facts.{Fact}
use Rattle.desk_trail.specs.Facts as fact
use Rattle.desk_trail.specs.Legal.{AreLegal, Point, StandsAt, beginning, point_after, point_behind}
use Rattle.desk_trail.specs.Owed.{InTurn, IsOwed, Owed, left_owed}
use Rattle.desk_trail.specs.Owed as owed
use Rattle.desk_trail.specs.States.{ClientState, ServerState, changed, changed_at, fresh_server, number_of}
use Rattle.desk_trail.specs.Topologies.{asked_at, asks_of, cleared, is_paused_at, offered_after, offered_owes, owed_by_change, readied, verdict_on, with_ask}
use Rattle.trail_laws.proofs.ListLemmas.{changed-keeps, changed-other}
use Rattle.trail_laws.specs.Numbers.{AreNumbered}
use Rattle.trail_laws.proofs.OwedLemmas.{IsIn, dropped-ahead, in-left, in-right, in-split, is_plain, named-behind}
use Rattle.trail_laws.proofs.ServerLemmas.{asked-keeps, number-there, numbered, plain-kept, plain-topology, second-of, standing_at, standing_of}

-- a server stands with the address, and is not to be dropped
pub record HasServer (w : ClientState) (os : List Owed) (a : Address) : Type 0 where
  pub number : ℕ
  pub there : standing_at w number ≡ Some (false, a)
  pub stays : IsIn (owed.Dropped number) os → ⊥

-- each host of the topology has one, or is to be named; and what is to be dropped is there
pub record AreHosts (w : ClientState) (os : List Owed) : Type 0 where
  pub named : (a : Address) → is_some (map.get w.topology.servers a) ≡ true → HasServer w os a ⊎ IsIn (owed.Named a) os
  pub bounded : (x : ℕ) → IsIn (owed.Dropped x) os → x < length w.servers

-- ---- Lists of what must come next

in-named : (a : Address) (p : Address → Bool) (ks : List Address) → among a ks ≡ true → p a ≡ true → IsIn (owed.Named a) (map (λ k. owed.Named k) (filter p ks))
in-named a p [] h q = absurd (cc)
in-named a p (k ∷ ks) h q = by (eq_by_cmp address_cmp a k) refl (λ m. in-named a p ks m q) h
  where
    first : k ≡ a → (b : Bool) → p k ≡ b → IsIn (owed.Named a) (map (λ k. owed.Named k) (cond b (k ∷ filter p ks) (filter p ks)))
    first same true e = inl (ap (λ x. owed.Named x) same)
    first same false e = let no : false ≡ true = sym e ∙ ap p same ∙ q in absurd (cc)

    later : IsIn (owed.Named a) (map (λ k. owed.Named k) (filter p ks)) → (b : Bool) → IsIn (owed.Named a) (map (λ k. owed.Named k) (cond b (k ∷ filter p ks) (filter p ks)))
    later i true = inr i
    later i false = i

    by : (b : Bool) → eq_by_cmp address_cmp a k ≡ b → (among a ks ≡ true → IsIn (owed.Named a) (map (λ k. owed.Named k) (filter p ks))) → (b || among a ks) ≡ true →
        IsIn (owed.Named a) (map (λ k. owed.Named k) (cond (p k) (k ∷ filter p ks) (filter p ks)))
    by true e rest m = first (same_from_test a k e) (p k) refl
    by false e rest m = later (rest m) (p k)

-- a host that was removed, and its number
pub record IsRemoved (f : Address → Option ℕ) (p : Address → Bool) (x : ℕ) : Type 0 where
  pub host : Address
  pub number : f host ≡ Some x
  pub passes : p host ≡ true

in-dropped : (x : ℕ) (f : Address → Option ℕ) (p : Address → Bool) (ks : List Address) → IsIn (owed.Dropped x) (map (λ n. owed.Dropped n) (filter_map f (filter p ks))) → IsRemoved f p x
in-dropped x f p [] h = absurd h
in-dropped x f p (k ∷ ks) h = by (p k) refl (in-dropped x f p ks) h
  where
    found : p k ≡ true → (IsIn (owed.Dropped x) (map (λ n. owed.Dropped n) (filter_map f (filter p ks))) → IsRemoved f p x) → (o : Option ℕ) → f k ≡ o →
        IsIn (owed.Dropped x) (map (λ n. owed.Dropped n) (cons_option o (filter_map f (filter p ks)))) → IsRemoved f p x
    found q rest None e i = rest i
    found q rest (Some n) e (inl same) = let is : n ≡ x = (cc) in record { host = k; number = e ∙ ap (λ m. Some m) is; passes = q }
    found q rest (Some n) e (inr i) = rest i

    by : (b : Bool) → p k ≡ b → (IsIn (owed.Dropped x) (map (λ n. owed.Dropped n) (filter_map f (filter p ks))) → IsRemoved f p x) →
        IsIn (owed.Dropped x) (map (λ n. owed.Dropped n) (filter_map f (cond b (k ∷ filter p ks) (filter p ks)))) → IsRemoved f p x
    by true q rest i = found q rest (f k) refl i
    by false q rest i = rest i

not-named : (x : ℕ) (ks : List Address) → IsIn (owed.Dropped x) (map (λ k. owed.Named k) ks) → ⊥
not-named x [] h = h
not-named x (k ∷ ks) (inl e) = absurd (cc)
not-named x (k ∷ ks) (inr h) = not-named x ks h

not-readied : (x : ℕ) (w : ClientState) (o : Option ℕ) → IsIn (owed.Dropped x) (readied w o) → ⊥
not-readied x w None h = h
not-readied x w (Some host) h = by (is_paused_at w host) h
  where
    by : (b : Bool) → IsIn (owed.Dropped x) (if b then owed.PoolReady host ∷ [] else []) → ⊥
    by true (inl e) = absurd (cc)
    by true (inr i) = i
    by false i = i

not-cleared : (x : ℕ) (o : Option ℕ) → IsIn (owed.Dropped x) (cleared o) → ⊥
not-cleared x None h = h
not-cleared x (Some host) (inl e) = absurd (cc)
not-cleared x (Some host) (inr i) = i

-- ---- Other entries

still-there : (w v : ClientState) (os ps : List Owed) (a : Address) → ((y : ℕ) → standing_at v y ≡ standing_at w y) →
    ((x : ℕ) → IsIn (owed.Dropped x) ps → IsIn (owed.Dropped x) os) → HasServer w os a → HasServer v ps a
still-there w v os ps a kept ahead s = record { number = s.number; there = kept s.number ∙ s.there; stays = λ i. s.stays (ahead s.number i) }

within : (ss : List ServerState) (y : ℕ) (b : Bool) (a : Address) → standing_of (slice_get ss y) ≡ Some (b, a) → y < length ss
within [] y b a h = absurd (cc)
within (s ∷ ss) zero b a h = omega arith
within (s ∷ ss) (suc y) b a h = let few = within ss y b a h in omega (arith, few)

there-when : (ss : List ServerState) (y : ℕ) → y < length ss → (s : ServerState) × (slice_get ss y ≡ Some s)
there-when [] y l = absurd (omega (arith, l))
there-when (s ∷ ss) zero l = (s, refl)
there-when (s ∷ ss) (suc y) l = there-when ss y (omega (arith, l))

-- where all stand as they stood, none is fewer
as-many : (w v : ClientState) (x : ℕ) → ((y : ℕ) → standing_at v y ≡ standing_at w y) → x < length w.servers → x < length v.servers
as-many w v x kept few =
    let s = there-when w.servers x few in
    within v.servers x s.0.has_left s.0.address (kept x ∙ ap standing_of s.1)

plain-step : (client : Client) (p : Point) (t : Timed Fact) → StandsAt client p t → is_plain t.what ≡ true → AreHosts p.state p.owed →
    AreHosts (point_after client p t).state (point_after client p t).owed
plain-step client p t s q h =
    let next = point_after client p t in
    let same : next.state.topology ≡ p.state.topology = plain-topology client t.at p.state t.what q in
    let kept = λ (y : ℕ). plain-kept client t.at p.state t.what y q in
    let ahead = λ (x : ℕ). dropped-ahead client t.at p.state x p.owed t.what q in
    record {
      named = λ a there. elim (h.named a (ap (λ (o : Topology). is_some (map.get o.servers a)) (sym same) ∙ there)) [
        | inl has ↦ inl (still-there p.state next.state p.owed next.owed a kept ahead has)
        | inr is ↦ inr (named-behind client t.at p.state a p.owed t.what q s.turn is)
      ];
      bounded = λ x i. as-many p.state next.state x kept (h.bounded x (ahead x i));
    }

-- ---- A host is named

fresh-there : (client : Client) (moment : ℕ) (a : Address) (ss : List ServerState) → standing_of (slice_get (ss ++ fresh_server client moment a ∷ []) (length ss)) ≡ Some (false, a)
fresh-there client moment a [] = refl
fresh-there client moment a (s ∷ ss) = fresh-there client moment a ss

more-there : (ss : List ServerState) (t : ServerState) (y : ℕ) (b : Bool) (a : Address) → standing_of (slice_get ss y) ≡ Some (b, a) → standing_of (slice_get (ss ++ t ∷ []) y) ≡ Some (b, a)
more-there [] t y b a h = absurd (cc)
more-there (s ∷ ss) t zero b a h = h
more-there (s ∷ ss) t (suc y) b a h = more-there ss t y b a h

named-debt : (d : Owed) (ds : List Owed) (host : ℕ) (a : Address) → InTurn (d ∷ ds) (fact.Named host a) → d ≡ owed.Named a
named-debt (owed.Named x) ds host a h = ap (λ y. owed.Named y) (sym h)
named-debt d ds host a h = absurd h

named-step : (client : Client) (w : ClientState) (moment host : ℕ) (a : Address) (os : List Owed) → InTurn os (fact.Named host a) → AreHosts w os →
    AreHosts (record w { servers = w.servers ++ fresh_server client moment a ∷ [] }) (drop 1 os)
named-step client w moment host a [] turn h = absurd turn
named-step client w moment host a (d ∷ ds) turn h =
    let t = fresh_server client moment a in
    let v : ClientState = record w { servers = w.servers ++ t ∷ [] } in
    let head = named-debt d ds host a turn in
    let longer = length-append w.servers (t ∷ []) in
    let later : (b : Address) → HasServer w (d ∷ ds) b → HasServer v ds b =
    λ b s. record { number = s.number; there = more-there w.servers t s.number false b s.there; stays = λ i. s.stays (inr i) } in
    let here : (b : Address) → a ≡ b → HasServer v ds b =
    λ b same. record {
      number = length w.servers;
      there = fresh-there client moment a w.servers ∙ ap (λ x. let p : Bool × Address = (false, x) in Some p) same;
      stays = λ i. let less = h.bounded (length w.servers) (inr i) in absurd (omega (arith, less));
    } in
    record {
      named = λ b there. elim (h.named b there) [
        | inl has ↦ inl (later b has)
        | inr (inl e) ↦ inl (here b (let same : owed.Named a ≡ owed.Named b = sym head ∙ e in (cc)))
        | inr (inr i) ↦ inr i
      ];
      bounded = λ x i. let less = h.bounded x (inr i) in omega (arith, less, longer);
    }

-- ---- A host is dropped

dropped-debt : (d : Owed) (ds : List Owed) (host : ℕ) → InTurn (d ∷ ds) (fact.Dropped host) → d ≡ owed.Dropped host
dropped-debt (owed.Dropped x) ds host h = ap (λ y. owed.Dropped y) (sym h)
dropped-debt d ds host h = absurd h

length-changed : (ss : List ServerState) (host : ℕ) (f : ServerState → ServerState) → length (changed ss host f) ≡ length ss
length-changed ss host f = by (slice_get ss host)
  where
    by : (o : Option ServerState) → length (changed_at ss host o f) ≡ length ss
    by None = refl
    by (Some s) = length-set ss host (f s)

not-shut : (x host : ℕ) (ds : List Owed) → IsIn (owed.Dropped x) (owed.PoolShut host ∷ ds) → IsIn (owed.Dropped x) ds
not-shut x host ds (inl e) = absurd (cc)
not-shut x host ds (inr i) = i

dropped-step : (w : ClientState) (host : ℕ) (os : List Owed) → InTurn os (fact.Dropped host) → AreHosts w os →
    AreHosts (record w { servers = changed w.servers host leaves }) (owed.PoolShut host ∷ drop 1 os)
dropped-step w host [] turn h = absurd turn
dropped-step w host (d ∷ ds) turn h =
    let v : ClientState = record w { servers = changed w.servers host leaves } in
    let head = dropped-debt d ds host turn in
    let later : (b : Address) → HasServer w (d ∷ ds) b → HasServer v (owed.PoolShut host ∷ ds) b =
    λ b s.
    let other : host ≡ s.number → ⊥ = λ e. s.stays (inl (head ∙ ap (λ y. owed.Dropped y) e)) in
    record {
      number = s.number;
      there = ap standing_of (changed-other w.servers host s.number leaves other) ∙ s.there;
      stays = λ i. s.stays (inr (not-shut s.number host ds i));
    } in
    record {
      named = λ b there. elim (h.named b there) [
        | inl has ↦ inl (later b has)
        | inr (inl e) ↦ let no : owed.Dropped host ≡ owed.Named b = sym head ∙ e in absurd (cc)
        | inr (inr i) ↦ inr (inr i)
      ];
      bounded = λ x i.
          let less = h.bounded x (inr (not-shut x host ds i)) in
          let same = length-changed w.servers host leaves in
          omega (arith, less, same);
    }

-- ---- An event is offered

offered-debt : (d : Owed) (ds : List Owed) (place : ℕ) (event : TopoEvent) (taken : OfferedHow) (b : Address) → InTurn (d ∷ ds) (fact.Offered place event taken) → d ≡ owed.Named b → ⊥
offered-debt (owed.Named a) ds place event taken b h e = h
offered-debt d ds place event taken b h e = absurd (cc)

asked-servers : (moment : ℕ) (w : ClientState) (o : Option ℕ) (y : ℕ) → standing_at (asked_at moment o w) y ≡ standing_at w y
asked-servers moment w None y = refl
asked-servers moment w (Some host) y = changed-keeps standing_of w.servers host y (asked moment) (asked-keeps moment)

-- an event that is taken in: the hosts that it added are to be named, and those that it removed dropped
owed-removed : (w : ClientState) (event : TopoEvent) (new : Topology) (x : ℕ) → IsIn (owed.Dropped x) (owed_by_change w event new) →
    IsRemoved (number_of w) (λ a. not (is_some (map.get new.servers a))) x
owed-removed w event new x i =
    let olds = w.topology.servers in
    let names = map (λ a. owed.Named a) (hosts_beyond new.servers olds) in
    let removed = map (λ y. owed.Dropped y) (filter_map (number_of w) (hosts_beyond olds new.servers)) in
    let ready = readied w (option_and_then (number_of w) (ready_after event new)) in
    let clear = cleared (option_and_then (number_of w) (cleared_after event new)) in
    elim (in-split (owed.Dropped x) names (removed ++ (ready ++ clear)) i) [
      | inl l ↦ absurd (not-named x (hosts_beyond new.servers olds) l)
      | inr r ↦ elim (in-split (owed.Dropped x) removed (ready ++ clear) r) [
        | inl l ↦ in-dropped x (number_of w) (λ a. not (is_some (map.get new.servers a))) (map.keys olds) l
        | inr m ↦ elim (in-split (owed.Dropped x) ready clear m) [
          | inl l ↦ absurd (not-readied x w (option_and_then (number_of w) (ready_after event new)) l)
          | inr l ↦ absurd (not-cleared x (option_and_then (number_of w) (cleared_after event new)) l)
        ]
      ]
    ]

-- a server whose address the new topology has is not among the removed
not-removed : (w : ClientState) (event : TopoEvent) (new : Topology) (b : Address) (x : ℕ) → is_some (map.get new.servers b) ≡ true → standing_at w x ≡ Some (false, b) →
    IsIn (owed.Dropped x) (owed_by_change w event new) → ⊥
not-removed w event new b x stands there i =
    let r = owed-removed w event new x i in
    let n = numbered 0 w.servers r.host x r.number in
    let place : x ≡ n.place = let e = n.is in omega (arith, e) in
    let both : Some (false, r.host) ≡ Some (false, b) = sym n.there ∙ ap (λ y. standing_at w y) (sym place) ∙ there in
    let same : r.host ≡ b = second-of (false, r.host) (false, b) both in
    let no : not (is_some (map.get new.servers b)) ≡ true = subst (λ y. not (is_some (map.get new.servers y)) ≡ true) same r.passes in
    let never : false ≡ true = ap not (sym stands) ∙ no in
    absurd (cc)

taken-step : (w v : ClientState) (event : TopoEvent) (new : Topology) (d : Owed) (ds : List Owed) → ((b : Address) → d ≡ owed.Named b → ⊥) →
    ((y : ℕ) → standing_at v y ≡ standing_at w y) → v.topology ≡ new → AreHosts w (d ∷ ds) → AreHosts v (owed_by_change w event new ++ ds)
taken-step w v event new d ds other kept is h = record {
  named = λ b there.
      let stands : is_some (map.get new.servers b) ≡ true = ap (λ (t : Topology). is_some (map.get t.servers b)) (sym is) ∙ there in
      by b stands (is_some (map.get w.topology.servers b)) refl;
  bounded = λ x i. elim (in-split (owed.Dropped x) (owed_by_change w event new) ds i) [
    | inl l ↦
        let r = owed-removed w event new x l in
        let n = numbered 0 w.servers r.host x r.number in
        let e = n.is in
        let few = n.within in
        as-many w v x kept (omega (arith, e, few))
    | inr j ↦ as-many w v x kept (h.bounded x (inr j))
  ];
}
  where
    later : (b : Address) → is_some (map.get new.servers b) ≡ true → HasServer w (d ∷ ds) b → HasServer v (owed_by_change w event new ++ ds) b
    later b stands s = record {
      number = s.number;
      there = kept s.number ∙ s.there;
      stays = λ i. elim (in-split (owed.Dropped s.number) (owed_by_change w event new) ds i) [
        | inl l ↦ not-removed w event new b s.number stands s.there l
        | inr j ↦ s.stays (inr j)
      ];
    }

    by : (b : Address) → is_some (map.get new.servers b) ≡ true → (c : Bool) → is_some (map.get w.topology.servers b) ≡ c →
        HasServer v (owed_by_change w event new ++ ds) b ⊎ IsIn (owed.Named b) (owed_by_change w event new ++ ds)
    by b stands true stood = elim (h.named b stood) [
      | inl has ↦ inl (later b stands has)
      | inr (inl e) ↦ absurd (other b e)
      | inr (inr i) ↦ inr (in-right (owed.Named b) (owed_by_change w event new) ds i)
    ]
    by b stands false stood =
        inr (in-left (owed.Named b) (owed_by_change w event new) ds
        (in-left (owed.Named b) (map (λ a. owed.Named a) (hosts_beyond new.servers w.topology.servers)) _
        (in-named b (λ x. not (is_some (map.get w.topology.servers x))) (map.keys new.servers) (sym (map.contains_key-keys new.servers b) ∙ stands) (ap not stood))))

offered-step : (w : ClientState) (moment place : ℕ) (event : TopoEvent) (taken : OfferedHow) (os : List Owed) → InTurn os (fact.Offered place event taken) → AreHosts w os →
    AreHosts (offered_after moment event w) (offered_owes w event ++ drop 1 os)
offered-step w moment place event taken [] turn h = absurd turn
offered-step w moment place event taken (d ∷ ds) turn h = by (is_accepted_verdict (verdict_on w event))
  where
    by : (b : Bool) → AreHosts (record (if b then with_ask moment event w else w) { topology = if b then rules.after w.topology event else w.topology; events = w.events + 1 })
        ((if b then owed_by_change w event (rules.after w.topology event) else []) ++ ds)
    by true =
        let v : ClientState = record (with_ask moment event w) { topology = rules.after w.topology event; events = w.events + 1 } in
        taken-step w v event (rules.after w.topology event) d ds (λ b named. offered-debt d ds place event taken b turn named)
        (asked-servers moment w (option_and_then (number_of w) (asks_of event))) refl h
    by false = record {
      named = λ b there. elim (h.named b there) [
        | inl has ↦ inl (record { number = has.number; there = has.there; stays = λ i. has.stays (inr i) })
        | inr (inl same) ↦ absurd (offered-debt d ds place event taken b turn same)
        | inr (inr i) ↦ inr i
      ];
      bounded = λ x i. h.bounded x (inr i);
    }

-- ---- Each entry

step-at : (client : Client) (p : Point) (moment : ℕ) (f : Fact) → StandsAt client p (record { at = moment; what = f }) → AreHosts p.state p.owed →
    AreHosts (point_after client p (record { at = moment; what = f })).state (point_after client p (record { at = moment; what = f })).owed
step-at client p moment (fact.Named host a) s h = named-step client p.state moment host a p.owed s.turn h
step-at client p moment (fact.Dropped host) s h = dropped-step p.state host p.owed s.turn h
step-at client p moment (fact.Offered place event taken) s h = offered-step p.state moment place event taken p.owed s.turn h
step-at client p moment (fact.Time stamp) s h = h
step-at client p moment f s h = plain-step client p (record { at = moment; what = f }) s refl h

-- ---- Where a trail begins

in-list : (a : Address) (ks : List Address) → among a ks ≡ true → IsIn (owed.Named a) (map (λ k. owed.Named k) ks)
in-list a [] h = absurd (cc)
in-list a (k ∷ ks) h = by (eq_by_cmp address_cmp a k) refl (in-list a ks) h
  where
    by : (b : Bool) → eq_by_cmp address_cmp a k ≡ b → (among a ks ≡ true → IsIn (owed.Named a) (map (λ x. owed.Named x) ks)) → (b || among a ks) ≡ true →
        IsIn (owed.Named a) (map (λ x. owed.Named x) (k ∷ ks))
    by true e rest m = inl (ap (λ x. owed.Named x) (same_from_test a k e))
    by false e rest m = inr (rest m)

listed : {A : Type 0} (b : Bool) (x : A) → is_some (cond b (Some x) None) ≡ true → b ≡ true
listed true x h = refl
listed false x h = absurd (cc)

pub AreHosts-beginning : (client : Client) → AreHosts (beginning client).state (beginning client).owed
AreHosts-beginning client =
    let hosts = client.settings.hosts in
    record {
      named = λ a there.
          inr (in-list a hosts (listed (among a hosts) (default_unknown_of a) (ap is_some (sym (get-tabulate default_unknown_of a hosts)) ∙ there)));
      bounded = λ x i. absurd (not-named x hosts i);
    }

AreHosts-from : (client : Client) (p : Point) (ts : List (Timed Fact)) → Legal (StandsAt client) (point_after client) p ts → AreHosts p.state p.owed →
    AreHosts (state_after (point_after client) p ts).state (state_after (point_after client) p ts).owed
AreHosts-from client p [] l h = h
AreHosts-from client p (t ∷ ts) l h = AreHosts-from client (point_after client p t) ts l.1 (step-at client p t.at t.what l.0 h)

AreHosts-behind : (client : Client) (ts : List (Timed Fact)) → AreLegal client ts → AreHosts (point_behind client ts).state (point_behind client ts).owed
AreHosts-behind client ts l = AreHosts-from client (beginning client) ts l (AreHosts-beginning client)

pub AreNumbered-behind : (client : Client) (ts : List (Timed Fact)) → AreLegal client ts → (point_behind client ts).owed ≡ [] → AreNumbered (point_behind client ts).state
AreNumbered-behind client ts l paid = λ a there. elim ((AreHosts-behind client ts l).named a there) [
  | inl has ↦ number-there 0 (point_behind client ts).state.servers a has.number has.there
  | inr i ↦ absurd (subst (IsIn (owed.Named a)) paid i)
]
