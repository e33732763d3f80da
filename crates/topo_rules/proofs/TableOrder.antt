-- Where a search by halves ends in a table that is in order, and what a sort and a write make of its map.
use Rattle.std.proofs.Common.{◌≡◌, ℕ, zero, suc, ◌+◌, ◌<◌, ◌≤◌, Bool, true, false, cond, not, ◌&&◌, List, [], ◌∷◌, ◌++◌, map, Option, None, Some, refl, sym, ap, subst, ◌∙◌, arith, inl, inr, T, is_some, slice_get, option_map, length, get_or, set, true≢false}
use Rattle.std.proofs.lemmas.Bool.{cases_lt}
use Rattle.std.proofs.lemmas.List.Kept.{IsStrictlySortedBy-dedup}
use Rattle.std.proofs.lemmas.List.{length-map}
use Rattle.std.proofs.lemmas.Option.{get_or_from_slice_get, slice_get-map}
use Rattle.std.proofs.lemmas.Map.Keys.{sorted_head, sorted_tail, Less-from_sorted}
use Rattle.std.specs.Arc.{arc_value}
use Rattle.std.specs.declared.sync.Arc.{Arc}
use Rattle.std.specs.Cmp.{IsTotalOrder, on_total}
use Rattle.std.specs.FinMap as map
use Rattle.std.specs.FinMap.Entries.{below_all, where_key, find-where_key}
use Rattle.std.specs.List.{AllByRecursion, filter, dedup, dedup_from}
use Rattle.std.specs.List.Sorted.{IsSorted, IsStrictlySortedBy, ties, IsPartitionPoint}
use Rattle.std.specs.Map.{keys_of}
use Rattle.std.specs.Ordering.{eq_by_cmp, is_lt, is_eq, ordering_reverse}
use Rattle.std.specs.declared.cmp.Ordering.{Ordering}
use Rattle.std.specs.declared.cmp.Ordering.TheVariants.{Less, Equal, Greater}
use Rattle.host_name.specs.Addresses.{Address, address_cmp, is_same_address, is_same_address-true}
use Rattle.hello_reply.specs.declared.server_description.ServerDescription.{ServerDescription}
use Rattle.topo_rules.specs.Maps.{ServerMap, StandAtHosts}
use Rattle.topo_rules.specs.Seen.{by_host, described, seen}
use Rattle.host_name.proofs.HostOrder.{host_total, host_same, host_ties}
use Rattle.topo_rules.proofs.HostTables.{entries-by_host, equal_is, same_from_test}
use Rattle.topo_rules.proofs.Lists.{none_past}
use Rattle.topo_rules.proofs.Tabulate.{get_at}
use Rattle.topo_rules.proofs.Places.{strict_keys, strictly}

less_untied : (r s : Ordering) → s ≡ ordering_reverse r → s ≡ Less → is_eq r ≡ false
less_untied Less s e f = refl
less_untied Equal s e f = absurd (true≢false (ap is_eq (sym e ∙ f)))
less_untied Greater s e f = refl

greater_untied : (r s : Ordering) → s ≡ ordering_reverse r → s ≡ Greater → is_eq r ≡ false
greater_untied Less s e f = refl
greater_untied Equal s e f = absurd (true≢false (ap is_eq (sym e ∙ f)))
greater_untied Greater s e f = refl

not_back : (r s : Ordering) → s ≡ ordering_reverse r → r ≡ Less → is_lt s ≡ false
not_back Less s e h = ap is_lt e
not_back Equal s e h = absurd (true≢false (sym (ap is_lt h)))
not_back Greater s e h = absurd (true≢false (sym (ap is_lt h)))

tie : (r s : Ordering) → s ≡ ordering_reverse r → (not (is_lt r) && not (is_lt s)) ≡ is_eq r
tie Less s e = refl
tie Equal s e = ap (λ o. not (is_lt o)) e
tie Greater s e = ap (λ o. not (is_lt o)) e

-- shared descriptions compare as their hosts do
abbrev pub host_order : {Z : Type 0} → Arc ServerDescription Z → Arc ServerDescription Z → Ordering
host_order a b = address_cmp (arc_value a).host (arc_value b).host

module _ {Z : Type 0} where
  abbrev pub host_at : Arc ServerDescription Z → Address
  host_at s = (arc_value s).host

  abbrev found : Address → List (Arc ServerDescription Z) → Option ServerDescription
  found q es = map.find address_cmp q (by_host (described es))

  pub get-seen : (es : List (Arc ServerDescription Z)) (q : Address) → map.get (seen es) q ≡ found q es
  get-seen es q = map.get-from_entries host_total (by_host (described es)) q

  -- ---- a search

  none_found : (q : Address) (es : List (Arc ServerDescription Z)) → ((k : ℕ) (d : Arc ServerDescription Z) → k < length es → eq_by_cmp address_cmp q (host_at (get_or es k d)) ≡ false) → found q es ≡ None
  none_found q [] apart = refl
  none_found q (s ∷ es) apart =
      ap (λ b. cond b (Some (arc_value s)) (found q es)) (apart 0 s (omega arith))
      ∙ none_found q es (λ k d below. apart (suc k) d (omega arith))

  -- between those below and those above the host there is no place for it
  pub absent : (q : Address) (es : List (Arc ServerDescription Z)) (i : ℕ)
      → IsPartitionPoint (λ s. address_cmp (host_at s) q ≡ Less) (λ s. address_cmp (host_at s) q ≡ Greater) es i → map.get (seen es) q ≡ None
  absent q es i parts = get-seen es q ∙ none_found q es (λ k d below. by k d below)
    where
      by : (k : ℕ) (d : Arc ServerDescription Z) → k < length es → eq_by_cmp address_cmp q (host_at (get_or es k d)) ≡ false
      by k d below =
          let x = host_at (get_or es k d) in
          elim (cases_lt k i) [
            | inl h ↦ less_untied (address_cmp q x) (address_cmp x q) (host_total.antisymm x q) (parts.0 k d (omega arith) h)
            | inr h ↦ greater_untied (address_cmp q x) (address_cmp x q) (host_total.antisymm x q) (parts.1 k d h below)
          ]

  -- where a search ends at a place, the host stands there
  pub at_described : (q : Address) (es : List (Arc ServerDescription Z)) (i : ℕ) → i < length es → ((s : Arc ServerDescription Z) → address_cmp (host_at (get_or es i s)) q ≡ Equal) → (d : ServerDescription) → (get_or (described es) i d).host ≡ q
  at_described q [] i below at d = absurd (omega arith)
  at_described q (s ∷ es) zero below at d = host_same (host_at s) q (at s)
  at_described q (s ∷ es) (suc i) below at d = at_described q es i (omega arith) at d

  pub get-at-place : (es : List (Arc ServerDescription Z)) → T (map.is_sorted address_cmp (by_host (described es))) → (q : Address) (i : ℕ) → i < length es → ((d : ServerDescription) → (get_or (described es) i d).host ≡ q)
      → option_map (λ (s : Arc ServerDescription Z). arc_value s) (slice_get es i) ≡ map.get (seen es) q
  get-at-place es a q i below at = sym (slice_get-map (λ (s : Arc ServerDescription Z). arc_value s) es i) ∙ by (slice_get (described es) i) refl
    where
      by : (o : Option ServerDescription) → slice_get (described es) i ≡ o → o ≡ map.get (seen es) q
      by None e = let past : length (described es) ≤ i = none_past (described es) i e in absurd (omega (arith, length-map es (λ (s : Arc ServerDescription Z). arc_value s)))
      by (Some d) e =
          let host : d.host ≡ q = ap (λ (z : ServerDescription). z.host) (sym (get_or_from_slice_get (described es) i d d e)) ∙ at d in
          let entry : slice_get (map.entries (seen es)) i ≡ Some (d.host, d) = ap (λ fs. slice_get fs i) (entries-by_host (described es) a) ∙ slice_get-map (λ (d : ServerDescription). let x : Address × ServerDescription = (d.host, d) in x) (described es) i ∙ ap (option_map (λ (d : ServerDescription). let x : Address × ServerDescription = (d.host, d) in x)) e in
          sym (get_at (seen es) i (d.host, d) entry) ∙ ap (map.get (seen es)) host

  -- ---- a sort

  -- the order of descriptions is that of their hosts
  pub order_total : IsTotalOrder (host_order {Z = Z})
  order_total = on_total host_at host_total

  rises : (es : List (Arc ServerDescription Z)) → IsStrictlySortedBy (host_order {Z = Z}) es → T (map.is_sorted address_cmp (by_host (described es)))
  rises [] h = tt
  rises (s ∷ es) h = and_both _ _ (below es (sorted_head host_order s es h)) (rises es (sorted_tail host_order s es h))
    where
      and_both : (a b : Bool) → T a → T b → T (a && b)
      and_both true b p q = q
      and_both false b p q = p

      below : (fs : List (Arc ServerDescription Z)) → AllByRecursion (λ y. host_order s y ≡ Less) fs → T (below_all address_cmp (host_at s) (by_host (described fs)))
      below [] h = tt
      below (f ∷ fs) h = and_both _ _ (subst (λ r. T (is_lt r)) (sym h.0) tt) (below fs h.1)

  strict : (es : List (Arc ServerDescription Z)) → T (map.is_sorted address_cmp (by_host (described es))) → IsStrictlySortedBy (host_order {Z = Z}) es
  unfolding IsStrictlySortedBy
  strict [] h = tt
  strict (s ∷ es) h = (above es (first_of _ _ h), strict es (second_of _ _ h))
    where
      first_of : (a b : Bool) → T (a && b) → T a
      first_of true b h = tt
      first_of false b h = h

      second_of : (a b : Bool) → T (a && b) → T b
      second_of true b h = h
      second_of false b h = absurd h

      less_is : (r : Ordering) → T (is_lt r) → r ≡ Less
      less_is Less h = refl
      less_is Equal h = absurd h
      less_is Greater h = absurd h

      above : (fs : List (Arc ServerDescription Z)) → T (below_all address_cmp (host_at s) (by_host (described fs))) → AllByRecursion (λ y. host_order s y ≡ Less) fs
      above [] h = tt
      above (f ∷ fs) h = (less_is _ (first_of _ _ h), above fs (second_of _ _ h))

  pub sorted-in_order : (es : List (Arc ServerDescription Z)) → T (map.is_sorted address_cmp (by_host (described es))) → IsSorted (host_order {Z = Z}) es
  sorted-in_order es h k d low high =
      not_back (host_order (get_or es k d) (get_or es (k + 1) d)) (host_order (get_or es (k + 1) d) (get_or es k d)) (host_total.antisymm (host_at (get_or es (k + 1) d)) (host_at (get_or es k d))) (Less-from_sorted (host_order {Z = Z}) es k (k + 1) d (strict es h) (omega arith) high)

  -- what stands sorted and without repeats is in order
  pub dedup-in_order : (es : List (Arc ServerDescription Z)) → IsSorted (host_order {Z = Z}) es → T (map.is_sorted address_cmp (by_host (described (dedup (λ a b. is_same_address (host_at a) (host_at b)) es))))
  dedup-in_order es sorted = rises _ (IsStrictlySortedBy-dedup order_total {E = λ a b. is_same_address (host_at a) (host_at b)} (λ a b. host_ties (host_at a) (host_at b)) es sorted)

  -- the first of those that name a host is found, with the repeats or without
  found-dedup_from : (q : Address) (k : Arc ServerDescription Z) (es : List (Arc ServerDescription Z)) → found q (dedup_from (λ a b. is_same_address (host_at a) (host_at b)) k es) ≡ found q (k ∷ es)
  found-dedup_from q k [] = refl
  found-dedup_from q k (s ∷ es) = by (is_same_address (host_at s) (host_at k)) refl (found-dedup_from q k es) (found-dedup_from q s es)
    where
      hidden : (b c : Bool) → c ≡ b → cond b (Some (arc_value k)) (found q es) ≡ cond b (Some (arc_value k)) (cond c (Some (arc_value s)) (found q es))
      hidden true c e = refl
      hidden false c e = ap (λ d. cond d (Some (arc_value s)) (found q es)) (sym e)

      by : (b : Bool) → is_same_address (host_at s) (host_at k) ≡ b
          → found q (dedup_from (λ a b. is_same_address (host_at a) (host_at b)) k es) ≡ found q (k ∷ es)
          → found q (dedup_from (λ a b. is_same_address (host_at a) (host_at b)) s es) ≡ found q (s ∷ es)
          → found q (cond b (dedup_from (λ a b. is_same_address (host_at a) (host_at b)) k es) (k ∷ dedup_from (λ a b. is_same_address (host_at a) (host_at b)) s es)) ≡ found q (k ∷ s ∷ es)
      by true e one two = one ∙ hidden (eq_by_cmp address_cmp q (host_at k)) (eq_by_cmp address_cmp q (host_at s)) (ap (eq_by_cmp address_cmp q) (is_same_address-true (host_at s) (host_at k) e))
      by false e one two = ap (λ o. cond (eq_by_cmp address_cmp q (host_at k)) (Some (arc_value k)) o) two

  found-dedup : (q : Address) (es : List (Arc ServerDescription Z)) → found q (dedup (λ a b. is_same_address (host_at a) (host_at b)) es) ≡ found q es
  found-dedup q [] = refl
  found-dedup q (s ∷ es) = found-dedup_from q s es

  abbrev first : List (Arc ServerDescription Z) → Option ServerDescription
  first [] = None
  first (s ∷ es) = Some (arc_value s)

  found-filter : (q : Address) (p : Arc ServerDescription Z → Bool) → ((s : Arc ServerDescription Z) → p s ≡ eq_by_cmp address_cmp q (host_at s)) → (es : List (Arc ServerDescription Z)) → found q es ≡ first (filter p es)
  found-filter q p is [] = refl
  found-filter q p is (s ∷ es) = by (p s) (is s) (found-filter q p is es)
    where
      by : (b : Bool) → b ≡ eq_by_cmp address_cmp q (host_at s) → found q es ≡ first (filter p es) → cond (eq_by_cmp address_cmp q (host_at s)) (Some (arc_value s)) (found q es) ≡ first (cond b (s ∷ filter p es) (filter p es))
      by true e rest = ap (λ b. cond b (Some (arc_value s)) (found q es)) (sym e)
      by false e rest = ap (λ b. cond b (Some (arc_value s)) (found q es)) (sym e) ∙ rest

  found_whose : (q : Address) (es : List (Arc ServerDescription Z)) (d : ServerDescription) → found q es ≡ Some d → (s : Arc ServerDescription Z) × (host_at s ≡ q)
  found_whose q [] d e = absurd (true≢false (sym (ap is_some e)))
  found_whose q (s ∷ es) d e = by (eq_by_cmp address_cmp q (host_at s)) refl (found_whose q es d) e
    where
      by : (b : Bool) → eq_by_cmp address_cmp q (host_at s) ≡ b → (found q es ≡ Some d → (s : Arc ServerDescription Z) × (host_at s ≡ q)) → cond b (Some (arc_value s)) (found q es) ≡ Some d → (s : Arc ServerDescription Z) × (host_at s ≡ q)
      by true t rest e = (s, same_from_test q (host_at s) t)
      by false t rest e = rest e

  -- two tables in which those that tie stand alike find the same
  module _ (xs ys : List (Arc ServerDescription Z)) (stable : (s : Arc ServerDescription Z) → filter (ties (λ a b. is_lt (host_order a b)) s) ys ≡ filter (ties (λ a b. is_lt (host_order a b)) s) xs) where
    alike_by : (q : Address) (s : Arc ServerDescription Z) → host_at s ≡ q → found q ys ≡ found q xs
    alike_by q s at =
        let p : Arc ServerDescription Z → Bool = ties (λ a b. is_lt (host_order a b)) s in
        let is : (z : Arc ServerDescription Z) → p z ≡ eq_by_cmp address_cmp q (host_at z) = λ z. tie (address_cmp (host_at s) (host_at z)) (address_cmp (host_at z) (host_at s)) (host_total.antisymm (host_at z) (host_at s)) ∙ ap (λ h. eq_by_cmp address_cmp h (host_at z)) at in
        found-filter q p is ys ∙ ap first (stable s) ∙ sym (found-filter q p is xs)

    alike : (q : Address) → found q ys ≡ found q xs
    alike q = by (found q xs) (found q ys) refl refl
      where
        by : (o r : Option ServerDescription) → found q xs ≡ o → found q ys ≡ r → found q ys ≡ found q xs
        by (Some d) r e f = let w = found_whose q xs d e in alike_by q w.0 w.1
        by None (Some d) e f = let w = found_whose q ys d f in alike_by q w.0 w.1
        by None None e f = f ∙ sym e

    pub seen-sorted : seen (dedup (λ a b. is_same_address (host_at a) (host_at b)) ys) ≡ seen xs
    seen-sorted = map.same_map host_total host_same _ _ (λ q. get-seen _ q ∙ found-dedup q ys ∙ alike q ∙ sym (get-seen xs q))

-- ---- a write at a place

abbrev found_in : Address → List ServerDescription → Option ServerDescription
found_in q ds = map.find address_cmp q (by_host ds)

keys_of-by_host : (ds : List ServerDescription) → keys_of (by_host ds) ≡ map (λ d. d.host) ds
keys_of-by_host [] = refl
keys_of-by_host (d ∷ ds) = ap (λ ks. d.host ∷ ks) (keys_of-by_host ds)

module _ (d : ServerDescription) where
  hosts-set : (ds : List ServerDescription) (i : ℕ) → ((e : ServerDescription) → i < length ds → (get_or ds i e).host ≡ d.host) → map (λ d. d.host) (set ds i d) ≡ map (λ d. d.host) ds
  hosts-set [] i at = refl
  hosts-set (e ∷ ds) zero at = ap (λ h. h ∷ map (λ d. d.host) ds) (sym (at e (omega arith)))
  hosts-set (e ∷ ds) (suc i) at = ap (λ hs. e.host ∷ hs) (hosts-set ds i (λ x below. at x (omega arith)))

  pub set-in_order : (ds : List ServerDescription) (i : ℕ) → ((e : ServerDescription) → i < length ds → (get_or ds i e).host ≡ d.host) → T (map.is_sorted address_cmp (by_host ds)) → T (map.is_sorted address_cmp (by_host (set ds i d)))
  set-in_order ds i at a =
      strictly address_cmp (by_host (set ds i d))
      (subst (IsStrictlySortedBy address_cmp) (keys_of-by_host ds ∙ sym (hosts-set ds i at) ∙ sym (keys_of-by_host (set ds i d))) (strict_keys address_cmp (by_host ds) a))

  first_half : (a b : Bool) → T (a && b) → T a
  first_half true b h = tt
  first_half false b h = h

  second_half : (a b : Bool) → T (a && b) → T b
  second_half true b h = h
  second_half false b h = absurd h

  above_at : (x : Address) (ds : List ServerDescription) (i : ℕ) → i < length ds → ((e : ServerDescription) → i < length ds → (get_or ds i e).host ≡ d.host) → T (below_all address_cmp x (by_host ds)) → T (is_lt (address_cmp x d.host))
  above_at x [] i below at h = absurd (omega arith)
  above_at x (e ∷ ds) zero below at h = subst (λ y. T (is_lt (address_cmp x y))) (at e (omega arith)) (first_half _ _ h)
  above_at x (e ∷ ds) (suc i) below at h = above_at x ds i (omega arith) (λ z b. at z (omega arith)) (second_half _ _ h)

  apart_tests : (q x y : Address) → T (is_lt (address_cmp x y)) → eq_by_cmp address_cmp q x ≡ true → eq_by_cmp address_cmp q y ≡ true → ⊥
  apart_tests q x y less a b =
      let first : x ≡ q = same_from_test q x a in
      let second : y ≡ x = same_from_test q y b ∙ sym first in
      let tied : address_cmp x y ≡ Equal = (λ i. address_cmp (first i) (second i)) ∙ equal_is (address_cmp q x) a in
      subst (λ r. T (is_lt r)) tied less

  found-set : (q : Address) (ds : List ServerDescription) (i : ℕ) → i < length ds → ((e : ServerDescription) → i < length ds → (get_or ds i e).host ≡ d.host) → T (map.is_sorted address_cmp (by_host ds))
      → found_in q (set ds i d) ≡ cond (eq_by_cmp address_cmp q d.host) (Some d) (found_in q ds)
  found-set q [] i below at a = absurd (omega arith)
  found-set q (e ∷ ds) zero below at a =
      shadow (eq_by_cmp address_cmp q d.host) ∙ ap (λ h. cond (eq_by_cmp address_cmp q d.host) (Some d) (cond (eq_by_cmp address_cmp q h) (Some e) (found_in q ds))) (sym (at e (omega arith)))
    where
      shadow : (b : Bool) → cond b (Some d) (found_in q ds) ≡ cond b (Some d) (cond b (Some e) (found_in q ds))
      shadow true = refl
      shadow false = refl
  found-set q (e ∷ ds) (suc i) below at a =
      let at' : (x : ServerDescription) → i < length ds → (get_or ds i x).host ≡ d.host = λ x b. at x (omega arith) in
      let less = above_at e.host ds i (omega arith) at' (first_half _ _ a) in
      ap (λ o. cond (eq_by_cmp address_cmp q e.host) (Some e) o) (found-set q ds i (omega arith) at' (second_half _ _ a))
      ∙ swap (eq_by_cmp address_cmp q e.host) (eq_by_cmp address_cmp q d.host) (apart_tests q e.host d.host less)
    where
      swap : (b c : Bool) → (b ≡ true → c ≡ true → ⊥) → cond b (Some e) (cond c (Some d) (found_in q ds)) ≡ cond c (Some d) (cond b (Some e) (found_in q ds))
      swap true true apart = absurd (apart refl refl)
      swap true false apart = refl
      swap false c apart = refl

  pub seen-set : (ds : List ServerDescription) (i : ℕ) → i < length ds → ((e : ServerDescription) → i < length ds → (get_or ds i e).host ≡ d.host) → T (map.is_sorted address_cmp (by_host ds))
      → map.from_entries {R = address_cmp} (by_host (set ds i d)) ≡ map.insert (map.from_entries (by_host ds)) d.host d
  seen-set ds i below at a = map.same_map host_total host_same _ _ (λ q.
      map.get-from_entries host_total (by_host (set ds i d)) q ∙ found-set q ds i below at a
      ∙ sym (map.get-insert host_total _ d.host d q ∙ ap (cond (eq_by_cmp address_cmp q d.host) (Some d)) (map.get-from_entries host_total (by_host ds) q)))

-- ---- a host more, a host less

map-push : {A B : Type 0} (f : A → B) (xs : List A) (x : A) → map f (xs ++ x ∷ []) ≡ map f xs ++ f x ∷ []
map-push f [] x = refl
map-push f (y ∷ xs) x = ap (λ ys. f y ∷ ys) (map-push f xs x)

own-entries : (es : List (Address × ServerDescription)) → ((i : ℕ) (e : Address × ServerDescription) → slice_get es i ≡ Some e → e.1.host ≡ e.0) → by_host (map (λ (e : Address × ServerDescription). e.1) es) ≡ es
own-entries [] own = refl
own-entries (e ∷ es) own = λ j. (own 0 e refl j, e.1) ∷ own-entries es (λ i f is. own (suc i) f is) j

pub seen-push : {Z : Type 0} (m : ServerMap) → StandAtHosts m → (es : List (Arc ServerDescription Z)) (d : ServerDescription) → described es ≡ map.values m ++ d ∷ [] → map.get m d.host ≡ None → seen es ≡ map.insert m d.host d
seen-push m own es d is none =
    ap (λ ds. map.from_entries {R = address_cmp} (by_host ds)) is
    ∙ ap (λ fs. map.from_entries {R = address_cmp} fs) (map-push (λ (d : ServerDescription). let x : Address × ServerDescription = (d.host, d) in x) (map.values m) d ∙ ap (λ fs. fs ++ (d.host, d) ∷ []) (own-entries (map.entries m) (λ i e at. own.at e.0 e.1 (get_at m i e at))))
    ∙ map.from_entries_push host_total host_same (map.entries m) d.host d (sym (map.get-entries m d.host) ∙ none)
    ∙ ap (λ n. map.insert n d.host d) (map.same_map host_total host_same (map.from_entries (map.entries m)) m (λ q. map.get-from_entries host_total (map.entries m) q ∙ sym (map.get-entries m q)))

turned : {A : Type 0} (b : Bool) (x y : A) → cond (not b) x y ≡ cond b y x
turned true x y = refl
turned false x y = refl

by_host-filter : (p : Address → Bool) (ds : List ServerDescription) → by_host (filter (λ d. p d.host) ds) ≡ where_key address_cmp p (by_host ds)
by_host-filter p [] = refl
by_host-filter p (d ∷ ds) = by (p d.host) (by_host-filter p ds)
  where
    by : (b : Bool) → by_host (filter (λ d. p d.host) ds) ≡ where_key address_cmp p (by_host ds) → by_host (cond b (d ∷ filter (λ d. p d.host) ds) (filter (λ d. p d.host) ds)) ≡ cond b ((d.host, d) ∷ where_key address_cmp p (by_host ds)) (where_key address_cmp p (by_host ds))
    by true h = ap (λ fs. (d.host, d) ∷ fs) h
    by false h = h

pub seen-without : {Z : Type 0} (k : Address) (es fs : List (Arc ServerDescription Z)) → described fs ≡ filter (λ d. not (is_same_address d.host k)) (described es) → seen fs ≡ map.remove (seen es) k
seen-without k es fs is = map.same_map host_total host_same _ _ (λ q.
    map.get-from_entries host_total (by_host (described fs)) q
    ∙ ap (λ ds. map.find address_cmp q (by_host ds)) is ∙ ap (map.find address_cmp q) (by_host-filter (λ x. not (is_same_address x k)) (described es))
    ∙ find-where_key address_cmp (λ x. not (is_same_address x k)) q (λ x t. ap (λ y. not (is_same_address y k)) (sym (host_same q x t))) (by_host (described es))
    ∙ turned (is_same_address q k) (map.find address_cmp q (by_host (described es))) None
    ∙ (λ i. cond (host_ties q k i) None (sym (get-seen es q) i))
    ∙ sym (map.get-remove host_total (seen es) k q))
