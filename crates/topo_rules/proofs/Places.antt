-- Lists of entries whose keys rise, at any order R of the keys.
use Rattle.std.proofs.Common.{◌≡◌, Bool, true, false, List, [], ◌∷◌, Ordering, refl, sym, ap, subst, ◌∙◌, T, ◌&&◌}
use Rattle.std.proofs.lemmas.Map.Keys.{IsDistinct-from_sorted, sorted_head, sorted_tail}
use Rattle.std.specs.Cmp.{IsTotalOrder}
use Rattle.std.specs.Ordering.{eq_by_cmp, is_lt}
use Rattle.std.specs.declared.cmp.Ordering.TheVariants.{Less, Equal, Greater}
use Rattle.std.specs.Map.{keys_of}
use Rattle.std.specs.List.{AllByRecursion, IsDistinct}
use Rattle.std.specs.List.Sorted.{IsStrictlySortedBy}
use Rattle.std.specs.FinMap as map
use Rattle.std.specs.FinMap.Entries.{below_all}

and_first : (a b : Bool) → T (a && b) → T a
and_first true b h = tt
and_first false b h = h

and_second : (a b : Bool) → T (a && b) → T b
and_second true b h = h
and_second false b h = absurd h

and_both : (a b : Bool) → T a → T b → T (a && b)
and_both true b p q = q
and_both false b p q = p

less_is : (r : Ordering) → T (is_lt r) → r ≡ Less
less_is Less h = refl
less_is Equal h = absurd h
less_is Greater h = absurd h

module _ {K X : Type 0} (R : K → K → Ordering) (o : IsTotalOrder R) (same : map.IsAntisymmetric R) where
  -- a list whose keys rise is the map's own list
  pub entries-from_entries : (es : List (K × X)) → T (map.is_sorted R es) → map.entries (map.from_entries {R = R} es) ≡ es
  entries-from_entries es a =
      ap map.entries (map.same_map o same (map.from_entries es) (map.from_sorted es) (λ q. map.get-from_entries o es q ∙ sym (map.get-from_sorted R es q a)))
      ∙ map.entries-from_sorted R es a

module _ {K X : Type 0} (R : K → K → Ordering) where
  pub strict_keys : (es : List (K × X)) → T (map.is_sorted R es) → IsStrictlySortedBy R (keys_of es)
  unfolding IsStrictlySortedBy
  strict_keys [] h = tt
  strict_keys (e ∷ es) h = (above es (and_first _ _ h), strict_keys es (and_second _ _ h))
    where
      above : (fs : List (K × X)) → T (below_all R e.0 fs) → AllByRecursion (λ y. R e.0 y ≡ Less) (keys_of fs)
      above [] h = tt
      above (f ∷ fs) h = (less_is _ (and_first _ _ h), above fs (and_second _ _ h))

  -- a list whose keys rise has no two equal keys
  pub distinct_keys : (es : List (K × X)) → T (map.is_sorted R es) → IsDistinct (eq_by_cmp R) (keys_of es)
  distinct_keys es h = IsDistinct-from_sorted R (keys_of es) (strict_keys es h)

  pub strictly : (es : List (K × X)) → IsStrictlySortedBy R (keys_of es) → T (map.is_sorted R es)
  strictly [] h = tt
  strictly (e ∷ es) h = and_both _ _ (below es (sorted_head R e.0 (keys_of es) h)) (strictly es (sorted_tail R e.0 (keys_of es) h))
    where
      below : (fs : List (K × X)) → AllByRecursion (λ y. R e.0 y ≡ Less) (keys_of fs) → T (below_all R e.0 fs)
      below [] h = tt
      below (f ∷ fs) h = and_both _ _ (subst (λ r. T (is_lt r)) (sym h.0) tt) (below fs h.1)
