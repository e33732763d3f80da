-- What holds of the definitions of selection.
use denote.Ref.{Bor}
use Rattle.std.proofs.Common.{◌≡◌, ◌≢◌, ℕ, ℤ, ◌+◌, ◌-◌, ◌%◌, ◌<◌, ◌≤◌, min, Bool, true, false, cond, not, ◌||◌, List, [], ◌∷◌, Option, None, Some, is_some, refl, sym, ap, subst, ◌∙◌, arith, filter, length, map, slice_get, nat_le, leb-true, le-leb, leb-false, mod-lt, inl, inr, true≢false}
use Rattle.std.proofs.lemmas.List.Elements.{All-nil, All-cons, All-head, All-tail, All-weaker, All-map, All-filter, All-contains, All-contains_itself, All-same, filter_passes}
use Rattle.std.proofs.lemmas.Option.{slice_get-get_or}
use Rattle.std.specs.FinMap as map
use Rattle.std.specs.List.{All, Contains, list_any, remove}
use Rattle.std.specs.Option.{IfSome}
use Rattle.host_name.specs.Addresses.{Address, is_same_address}
use Rattle.hello_reply.specs.declared.server_description.ServerDescription.{ServerDescription}
use Rattle.hello_reply.specs.declared.server_kind.ServerKind.{ServerKind}
use Rattle.hello_reply.specs.declared.server_kind.ServerKind.TheVariants as server
use Rattle.read_pref.specs.Preferences.{Preference}
use Rattle.read_pref.specs.declared.mode.Mode.TheVariants as mode
use Rattle.topo_rules.specs.Kinds.{is_known, is_primary, is_primary_kind}
use Rattle.topo_rules.specs.Maps.{ServerMap}
use Rattle.topo_rules.specs.Readings.{misfit_of}
use Rattle.topo_rules.specs.declared.kind.TopoKind.{TopoKind}
use Rattle.topo_rules.specs.declared.kind.TopoKind.TheVariants as topo
use Rattle.topo_rules.specs.declared.topology.Topology.{Topology}
use Rattle.server_pick.specs.Candidates.{is_mongos, is_mongos_kind, is_secondary_kind, is_member, or_else, avoiding, of_set, of_mode, suitable, candidate_of, candidates}
use Rattle.server_pick.specs.Laws.{IsNear, IsOfCandidate, TakesWrites, IsSet, BearsSetData}
use Rattle.server_pick.specs.Picks.{mean_of, chosen_of, told, picks}
use Rattle.server_pick.specs.Runs.{Runs, with_answer}
use Rattle.server_pick.specs.Windows.{lesser, least_of, within, window, lighter_of, choice}
use Rattle.server_pick.specs.declared.candidate.Candidate.{Candidate}
use Rattle.server_pick.specs.declared.criteria.Criteria.{Criteria}
use Rattle.server_pick.specs.declared.criteria.Need.{Need}
use Rattle.server_pick.specs.declared.criteria.Need.TheVariants.{Write, Read}
use Rattle.server_pick.specs.declared.picked.Picked.{Picked}
use Rattle.server_pick.specs.declared.picked.Picked.TheVariants.{Chosen, NoneFits, Incompatible}
use Rattle.server_pick.proofs.ChoiceLemmas.{all_choice}

-- ---- The least mean, and what is within the window

-- no number that is there is below n
abbrev pub IsUnder : ℕ → Option ℕ → Type 0
IsUnder n None = Unit {0}
IsUnder n (Some m) = n ≤ m

under_parts : (n a : ℕ) (o : Option ℕ) → IsUnder n (lesser (Some a) o) → (n ≤ a) × IsUnder n o
under_parts n a None h = (h, tt)
under_parts n a (Some m) h = (omega (arith, h), omega (arith, h))

abbrev number_in : Option ℕ → ℕ
number_in None = 0
number_in (Some k) = k

or_true : (b : Bool) → (b || true) ≡ true
or_true true = refl
or_true false = refl

same_number : (m n : ℕ) → Some m ≡ Some n → m ≡ n
same_number m n e = ap number_in e

module _ {A : Type 0} (f : A → ℕ) where
  all_above : (n : ℕ) (xs : List A) → IsUnder n (least_of f xs) → All (λ x. n ≤ f x) xs
  all_above n [] h = All-nil (λ x. n ≤ f x)
  all_above n (x ∷ xs) h =
      let parts : (n ≤ f x) × IsUnder n (least_of f xs) = under_parts n (f x) (least_of f xs) h in
      All-cons (λ y. n ≤ f y) x xs parts.0 (all_above n xs parts.1)

  reached_there : (n end : ℕ) (x : A) (some : Bool) (o : Option ℕ) → lesser (Some (f x)) o ≡ Some n → n ≤ end → ((m : ℕ) → o ≡ Some m → m ≤ end → some ≡ true) → (nat_le (f x) end || some) ≡ true
  reached_there n end x some o e h rest = by (nat_le (f x) end) refl o e rest
    where
      by : (b : Bool) → nat_le (f x) end ≡ b → (o : Option ℕ) → lesser (Some (f x)) o ≡ Some n → ((m : ℕ) → o ≡ Some m → m ≤ end → some ≡ true) → (nat_le (f x) end || some) ≡ true
      by true t o e rest = ap (λ b. b || some) t
      by false t None e rest =
          let same : f x ≡ n = same_number (f x) n e in
          let bound : f x ≤ end = omega (arith, same, h) in
          absurd (true≢false (sym (le-leb (f x) end bound) ∙ t))
      by false t (Some m) e rest =
          let same : min (f x) m ≡ n = same_number (min (f x) m) n e in
          let above : end < f x = leb-false (f x) end t in
          let bound : m ≤ end = omega (arith, same, above, h) in
          ap (λ b. nat_le (f x) end || b) (rest m refl bound) ∙ or_true (nat_le (f x) end)

  -- the least is reached by some item
  reached : (n end : ℕ) (xs : List A) → least_of f xs ≡ Some n → n ≤ end → list_any (λ x. nat_le (f x) end) xs ≡ true
  reached n end [] e h = absurd (true≢false (sym (ap is_some e)))
  reached n end (x ∷ xs) e h = reached_there n end x (list_any (λ x. nat_le (f x) end) xs) (least_of f xs) e h (λ m is le. reached m end xs is le)

  -- an item is in the list, and longer than none by more than the threshold
  pub record IsClose (threshold : ℕ) (xs : List A) (x : A) : Type 0 where
    pub there : Contains xs x
    pub near : All (λ y. f x ≤ f y + threshold) xs

  all_close : (threshold least : ℕ) (xs ys : List A) → All (λ y. least ≤ f y) xs → All (Contains xs) ys → All (λ x. nat_le (f x) (least + threshold) ≡ true) ys → All (IsClose threshold xs) ys
  all_close threshold least xs [] bound c p = All-nil (IsClose threshold xs)
  all_close threshold least xs (y ∷ ys) bound c p =
      let up : f y ≤ least + threshold = leb-true (f y) (least + threshold) (All-head (λ x. nat_le (f x) (least + threshold) ≡ true) y ys p) in
      let near : All (λ z. f y ≤ f z + threshold) xs = All-weaker (λ z. least ≤ f z) (λ z. f y ≤ f z + threshold) (λ z h. omega (arith, up, h)) xs bound in
      let close : IsClose threshold xs y = record { there = All-head (Contains xs) y ys c; near = near } in
      All-cons (IsClose threshold xs) y ys close
      (all_close threshold least xs ys bound (All-tail (Contains xs) y ys c) (All-tail (λ x. nat_le (f x) (least + threshold) ≡ true) y ys p))

  window_close : (threshold : ℕ) (xs : List A) → All (IsClose threshold xs) (window f threshold xs)
  window_close threshold xs = by (least_of f xs) refl
    where
      by : (o : Option ℕ) → least_of f xs ≡ o → All (IsClose threshold xs) (within f o threshold xs)
      by None e = All-nil (IsClose threshold xs)
      by (Some least) e =
          let under : IsUnder least (least_of f xs) = subst (IsUnder least) (sym e) (omega arith) in
          all_close threshold least xs (filter (λ x. nat_le (f x) (least + threshold)) xs) (all_above least xs under)
          (All-filter (λ x. nat_le (f x) (least + threshold)) (Contains xs) xs (All-contains_itself xs)) (filter_passes (λ x. nat_le (f x) (least + threshold)) xs)

  pub choice_close : (threshold : ℕ) (load : A → ℕ) (w1 w2 : ℕ) (xs : List A) → IfSome (choice load w1 w2 (window f threshold xs)) (IsClose threshold xs)
  choice_close threshold load w1 w2 xs = all_choice (IsClose threshold xs) load w1 w2 (window f threshold xs) (window_close threshold xs)

  filter_some : (p : A → Bool) (xs : List A) → list_any p xs ≡ true → 0 < length (filter p xs)
  filter_some p [] e = absurd (true≢false (sym e))
  filter_some p (x ∷ xs) e = by (p x) e (filter_some p xs)
    where
      by : (b : Bool) → (b || list_any p xs) ≡ true → (list_any p xs ≡ true → 0 < length (filter p xs)) → 0 < length (cond b (x ∷ filter p xs) (filter p xs))
      by true e ih = omega arith
      by false e ih = ih e

  window_some : (threshold : ℕ) (x : A) (xs : List A) → 0 < length (window f threshold (x ∷ xs))
  window_some threshold x xs = by (least_of f xs) refl
    where
      at_least : (n : ℕ) → least_of f (x ∷ xs) ≡ Some n → 0 < length (window f threshold (x ∷ xs))
      at_least n e =
          subst (λ o. 0 < length (within f o threshold (x ∷ xs))) (sym e)
          (filter_some (λ y. nat_le (f y) (n + threshold)) (x ∷ xs) (reached n (n + threshold) (x ∷ xs) e (omega arith)))

      by : (o : Option ℕ) → least_of f xs ≡ o → 0 < length (window f threshold (x ∷ xs))
      by None e = at_least (f x) (ap (lesser (Some (f x))) e)
      by (Some m) e = at_least (min (f x) m) (ap (lesser (Some (f x))) e)

some_choice : {A : Type 0} (load : A → ℕ) (w1 w2 : ℕ) (xs : List A) → 0 < length xs → is_some (choice load w1 w2 xs) ≡ true
some_choice load w1 w2 [] h = absurd (omega (arith, h))
some_choice load w1 w2 (x ∷ xs) h =
    ap (λ o. is_some (lighter_of load o (slice_get (remove (x ∷ xs) (w1 % length (x ∷ xs))) (w2 % (length (x ∷ xs) - 1)))))
    (slice_get-get_or (x ∷ xs) (w1 % length (x ∷ xs)) x (mod-lt w1 h))

-- ---- What is told

abbrev chosen_in : Picked → Option Address
chosen_in (Chosen host) = Some host
chosen_in _ = None

abbrev is_incompatible : Picked → Bool
is_incompatible (Incompatible host a b) = true
is_incompatible _ = false

abbrev is_none : Picked → Bool
is_none NoneFits = true
is_none _ = false

pub near_choice : (m : ServerMap) (threshold : ℕ) (kept : List Address) (load : Address → ℕ) (w1 w2 : ℕ) (host : Address) → picks m threshold kept load w1 w2 ≡ Chosen host → IsNear m threshold kept host
near_choice m threshold kept load w1 w2 host e = by (misfit_of m) (chosen_of m threshold kept load w1 w2) (choice_close (mean_of m) threshold load w1 w2 kept) e
  where
    by : (o : Option ServerDescription) (c : Option Address) → IfSome c (IsClose (mean_of m) threshold kept) → told o c ≡ Chosen host → IsNear m threshold kept host
    by (Some d) c h e = absurd (true≢false (sym (ap (λ p. is_some (chosen_in p)) e)))
    by None None h e = absurd (true≢false (sym (ap (λ p. is_some (chosen_in p)) e)))
    by None (Some x) h e =
        let same : x ≡ host = ap name (ap chosen_in e) in
        subst (IsNear m threshold kept) same (record { there = h.there; near = h.near })
      where
        name : Option Address → Address
        name None = x
        name (Some y) = y

pub misfit_first : (m : ServerMap) (threshold : ℕ) (kept : List Address) (load : Address → ℕ) (w1 w2 : ℕ) (d : ServerDescription) → misfit_of m ≡ Some d → picks m threshold kept load w1 w2 ≡ Incompatible d.host d.min_wire d.max_wire
misfit_first m threshold kept load w1 w2 d e = ap (λ o. told o (chosen_of m threshold kept load w1 w2)) e

pub none_incompatible : (m : ServerMap) (threshold : ℕ) (kept : List Address) (load : Address → ℕ) (w1 w2 : ℕ) (host : Address) (a b : ℤ) → misfit_of m ≡ None → picks m threshold kept load w1 w2 ≢ Incompatible host a b
none_incompatible m threshold kept load w1 w2 host a b none e = by (chosen_of m threshold kept load w1 w2) (sym (ap (λ o. told o (chosen_of m threshold kept load w1 w2)) none) ∙ e)
  where
    by : (c : Option Address) → told None c ≡ Incompatible host a b → ⊥
    by None e = true≢false (sym (ap is_incompatible e))
    by (Some x) e = true≢false (sym (ap is_incompatible e))

pub none_kept : (m : ServerMap) (threshold : ℕ) (kept : List Address) (load : Address → ℕ) (w1 w2 : ℕ) → picks m threshold kept load w1 w2 ≡ NoneFits → (misfit_of m ≡ None) × (kept ≡ [])
none_kept m threshold kept load w1 w2 e = by (misfit_of m) refl (chosen_of m threshold kept load w1 w2) refl e
  where
    empty : (xs : List Address) → is_some (chosen_of m threshold xs load w1 w2) ≡ false → xs ≡ []
    empty [] h = refl
    empty (x ∷ xs) h = absurd (true≢false (sym (some_choice load w1 w2 (window (mean_of m) threshold (x ∷ xs)) (window_some (mean_of m) threshold x xs)) ∙ h))

    by : (o : Option ServerDescription) → misfit_of m ≡ o → (c : Option Address) → chosen_of m threshold kept load w1 w2 ≡ c → told o c ≡ NoneFits → (misfit_of m ≡ None) × (kept ≡ [])
    by (Some d) is c at e = absurd (true≢false (sym (ap is_none e)))
    by None is None at e = (is, empty kept (ap is_some at))
    by None is (Some x) at e = absurd (true≢false (sym (ap is_none e)))

pub kept_none : (m : ServerMap) (threshold : ℕ) (kept : List Address) (load : Address → ℕ) (w1 w2 : ℕ) → (misfit_of m ≡ None) × (kept ≡ []) → picks m threshold kept load w1 w2 ≡ NoneFits
kept_none m threshold kept load w1 w2 h = λ i. told (h.0 i) (chosen_of m threshold (h.1 i) load w1 w2)

-- ---- What is kept

contains_more : {A : Type 0} (x : A) (xs : List A) (y : A) → Contains xs y → Contains (x ∷ xs) y
contains_more x xs y h = All-contains (Contains (x ∷ xs)) xs y (All-tail (Contains (x ∷ xs)) x xs (All-contains_itself (x ∷ xs))) h

contains_first : {A : Type 0} (x : A) (xs : List A) → Contains (x ∷ xs) x
contains_first x xs = All-head (Contains (x ∷ xs)) x xs (All-contains_itself (x ∷ xs))

module _ {S : Type 0} (allows : S → Candidate → Bool) (follows : S → Candidate → S → Type 0) where
  pub kept_candidates : (p : S) (cs : List Candidate) (kept : List Address) (q : S) → Runs allows follows p cs kept q → All (IsOfCandidate cs) kept
  kept_candidates p [] kept q h = All-same (IsOfCandidate []) kept [] h.0 (All-nil (IsOfCandidate []))
  kept_candidates p (c ∷ cs) kept q (r, step, (rest, is, more)) =
      All-same (IsOfCandidate (c ∷ cs)) kept (with_answer (allows p c) c rest) is
      (by (allows p c) (All-weaker (IsOfCandidate cs) (IsOfCandidate (c ∷ cs)) (λ h k. (k.0, contains_more c cs k.0 k.1, k.2)) rest (kept_candidates r cs rest q more)))
    where
      by : (b : Bool) → All (IsOfCandidate (c ∷ cs)) rest → All (IsOfCandidate (c ∷ cs)) (with_answer b c rest)
      by true h = All-cons (IsOfCandidate (c ∷ cs)) c.host rest (c, contains_first c cs, refl) h
      by false h = h

-- ---- Writes

mongos_is : (k : ServerKind) → is_mongos_kind k ≡ true → k ≡ server.Mongos
mongos_is server.Mongos e = refl
mongos_is server.Unknown e = absurd (true≢false (sym e))
mongos_is server.Standalone e = absurd (true≢false (sym e))
mongos_is server.Primary e = absurd (true≢false (sym e))
mongos_is server.Secondary e = absurd (true≢false (sym e))
mongos_is server.Arbiter e = absurd (true≢false (sym e))
mongos_is server.Other e = absurd (true≢false (sym e))
mongos_is server.Ghost e = absurd (true≢false (sym e))

primary_is : (k : ServerKind) → is_primary_kind k ≡ true → k ≡ server.Primary
primary_is server.Primary e = refl
primary_is server.Unknown e = absurd (true≢false (sym e))
primary_is server.Standalone e = absurd (true≢false (sym e))
primary_is server.Mongos e = absurd (true≢false (sym e))
primary_is server.Secondary e = absurd (true≢false (sym e))
primary_is server.Arbiter e = absurd (true≢false (sym e))
primary_is server.Other e = absurd (true≢false (sym e))
primary_is server.Ghost e = absurd (true≢false (sym e))

module _ {A : Type 0} (P : A → Type 0) where
  all_or_else : (xs ys : List A) → All P xs → All P ys → All P (or_else xs ys)
  all_or_else [] ys h k = k
  all_or_else (x ∷ xs) ys h k = h

all_avoiding : (P : ServerDescription → Type 0) (avoid : Option (Bor Address)) (ds : List ServerDescription) → All P ds → All P (avoiding avoid ds)
all_avoiding P None ds h = h
all_avoiding P (Some host) ds h = all_or_else P _ ds (All-filter (λ d. not (is_same_address d.host host.now)) P ds h) h

primaries_alone : (need : Need) (ds : List ServerDescription) → need ≡ Write → All (λ d. d.kind ≡ server.Primary) (of_set need ds)
primaries_alone need ds e =
    subst (λ n. All (λ (d : ServerDescription). d.kind ≡ server.Primary) (of_set n ds)) (sym e)
    (All-weaker (λ (d : ServerDescription). is_primary d ≡ true) (λ (d : ServerDescription). d.kind ≡ server.Primary) (λ d t. primary_is d.kind t) (filter is_primary ds) (filter_passes is_primary ds))

writes_suit : (kind : TopoKind) (criteria : Criteria) (ds : List ServerDescription) → criteria.need ≡ Write → All (λ d. TakesWrites kind d.kind) (suitable kind criteria ds)
writes_suit topo.Unknown criteria ds e = All-nil (λ (d : ServerDescription). TakesWrites topo.Unknown d.kind)
writes_suit topo.Single criteria ds e = filter_passes is_known ds
writes_suit topo.Sharded criteria ds e =
    all_avoiding (λ (d : ServerDescription). d.kind ≡ server.Mongos) criteria.avoid (filter is_mongos ds)
    (All-weaker (λ (d : ServerDescription). is_mongos d ≡ true) (λ (d : ServerDescription). d.kind ≡ server.Mongos) (λ d t. mongos_is d.kind t) (filter is_mongos ds) (filter_passes is_mongos ds))
writes_suit topo.NoPrimary criteria ds e = primaries_alone criteria.need ds e
writes_suit topo.WithPrimary criteria ds e = primaries_alone criteria.need ds e

pub write_candidates : (t : Topology) (criteria : Criteria) (load : Address → ℕ) → criteria.need ≡ Write → All (λ (c : Candidate). TakesWrites t.kind c.kind) (candidates t criteria load)
write_candidates t criteria load e = All-map (λ (c : Candidate). TakesWrites t.kind c.kind) (candidate_of load) (suitable t.kind criteria (map.values t.servers)) (writes_suit t.kind criteria (map.values t.servers) e)

-- ---- Nearest

contains_filter : {A : Type 0} (p : A → Bool) (xs : List A) → All (λ x. p x ≡ true → Contains (filter p xs) x) xs
contains_filter p [] = All-nil (λ x. p x ≡ true → Contains [] x)
contains_filter {A} p (x ∷ xs) = by (p x) refl (contains_filter p xs)
  where
    by : (b : Bool) → p x ≡ b → All (λ y. p y ≡ true → Contains (filter p xs) y) xs → All (λ y. p y ≡ true → Contains (cond b (x ∷ filter p xs) (filter p xs)) y) (x ∷ xs)
    by true e ih =
        All-cons (λ y. p y ≡ true → Contains (x ∷ filter p xs) y) x xs (λ _. contains_first x (filter p xs))
        (All-weaker (λ y. p y ≡ true → Contains (filter p xs) y) (λ y. p y ≡ true → Contains (x ∷ filter p xs) y) (λ y h t. contains_more x (filter p xs) y (h t)) xs ih)
    by false e ih = All-cons (λ y. p y ≡ true → Contains (filter p xs) y) x xs (λ t. absurd (true≢false (sym t ∙ e))) ih

contains_map : {A B : Type 0} (f : A → B) (xs : List A) → All (λ x. Contains (map f xs) (f x)) xs
contains_map f [] = All-nil (λ x. Contains [] (f x))
contains_map f (x ∷ xs) =
    All-cons (λ y. Contains (f x ∷ map f xs) (f y)) x xs (contains_first (f x) (map f xs))
    (All-weaker (λ y. Contains (map f xs) (f y)) (λ y. Contains (f x ∷ map f xs) (f y)) (λ y h. contains_more (f x) (map f xs) (f y) h) xs (contains_map f xs))

member_is : (d : ServerDescription) → BearsSetData d.kind → is_member d ≡ true
member_is d (inl e) = ap (λ k. is_primary_kind k || is_secondary_kind d.kind) e
member_is d (inr e) = ap (λ k. is_primary_kind d.kind || is_secondary_kind k) e ∙ or_true (is_primary_kind d.kind)

nearest_set : (need : Need) (p : Bor Preference) (ds : List ServerDescription) → need ≡ Read p → p.now.mode ≡ mode.Nearest → p.now.tag_sets ≡ [] → of_set need ds ≡ filter is_member ds
nearest_set need p ds e m s = ap (λ n. of_set n ds) e ∙ (λ i. of_mode (m i) (s i) ds)

pub nearest_candidates : (t : Topology) (criteria : Criteria) (load : Address → ℕ) (p : Bor Preference) (d : ServerDescription) → IsSet t.kind → criteria.need ≡ Read p → p.now.mode ≡ mode.Nearest → p.now.tag_sets ≡ [] → Contains (map.values t.servers) d → BearsSetData d.kind → Contains (candidates t criteria load) (candidate_of load d)
nearest_candidates t criteria load p d set need m s there bears =
    All-contains (λ x. Contains (map (candidate_of load) (suitable t.kind criteria ds)) (candidate_of load x)) (suitable t.kind criteria ds) d (contains_map (candidate_of load) (suitable t.kind criteria ds))
    (subst (λ xs. Contains xs d) (sym (suits set ∙ nearest_set criteria.need p ds need m s))
    (All-contains (λ x. is_member x ≡ true → Contains (filter is_member ds) x) ds d (contains_filter is_member ds) there (member_is d bears)))
  where
    ds : List ServerDescription
    ds = map.values t.servers

    suits : IsSet t.kind → suitable t.kind criteria ds ≡ of_set criteria.need ds
    suits (inl e) = ap (λ k. suitable k criteria ds) e
    suits (inr e) = ap (λ k. suitable k criteria ds) e
