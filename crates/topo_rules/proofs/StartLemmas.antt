-- Hosts differ exactly where a map of them has as many.
use Rattle.std.proofs.Common.{◌≡◌, suc, ◌+◌, ◌≤◌, Bool, true, false, cond, ◌||◌, List, [], ◌∷◌, length, Some, None, is_some, refl, sym, ap, ◌∙◌, arith, true≢false}
use Rattle.std.specs.FinMap as map
use Rattle.std.specs.List.{AllByRecursion, IsDistinct}
use Rattle.std.specs.Ordering.{eq_by_cmp}
use Rattle.host_name.specs.Addresses.{Address, address_cmp, is_same_address}
use Rattle.hello_reply.specs.declared.server_description.ServerDescription.{ServerDescription}
use Rattle.topo_rules.specs.Maps.{tabulate}
use Rattle.host_name.proofs.HostOrder.{host_total, host_ties}
use Rattle.topo_rules.proofs.Tabulate.{among, get-tabulate}

left_false : (a b : Bool) → (a || b) ≡ false → a ≡ false
left_false true b h = h
left_false false b h = refl

right_false : (a b : Bool) → (a || b) ≡ false → b ≡ false
right_false true b h = absurd (true≢false h)
right_false false b h = h

apart : (x : Address) (xs : List Address) → among x xs ≡ false → AllByRecursion (λ y. is_same_address x y ≡ false) xs
apart x [] none = tt
apart x (y ∷ xs) none = (host_ties x y ∙ left_false (eq_by_cmp address_cmp x y) _ none, apart x xs (right_false (eq_by_cmp address_cmp x y) _ none))

not_among : (x : Address) (xs : List Address) → AllByRecursion (λ y. is_same_address x y ≡ false) xs → among x xs ≡ false
not_among x [] h = refl
not_among x (y ∷ xs) h = ap (λ b. b || among x xs) (sym (host_ties x y) ∙ h.0) ∙ not_among x xs h.1

module _ (f : Address → ServerDescription) where
  has : (x : Address) (xs : List Address) → map.contains_key (tabulate xs f) x ≡ among x xs
  has x xs = ap is_some (get-tabulate f x xs) ∙ by (among x xs)
    where
      by : (b : Bool) → is_some (cond b (Some (f x)) None) ≡ b
      by true = refl
      by false = refl

  more : (x : Address) (xs : List Address) → map.len (tabulate (x ∷ xs) f) ≡ cond (among x xs) (map.len (tabulate xs f)) (map.len (tabulate xs f) + 1)
  more x xs = map.len-insert host_total (tabulate xs f) x (f x) ∙ ap (λ b. cond b (map.len (tabulate xs f)) (map.len (tabulate xs f) + 1)) (has x xs)

  at_most : (xs : List Address) → map.len (tabulate xs f) ≤ length xs
  at_most [] = omega (arith, map.len-empty address_cmp ServerDescription)
  at_most (x ∷ xs) = by (among x xs) (more x xs) (at_most xs)
    where
      by : (b : Bool) → map.len (tabulate (x ∷ xs) f) ≡ cond b (map.len (tabulate xs f)) (map.len (tabulate xs f) + 1) → map.len (tabulate xs f) ≤ length xs → map.len (tabulate (x ∷ xs) f) ≤ suc (length xs)
      by true e h = omega (arith, e)
      by false e h = omega (arith, e)

  pub distinct_from : (xs : List Address) → map.len (tabulate xs f) ≡ length xs → IsDistinct is_same_address xs
  unfolding IsDistinct
  distinct_from [] e = tt
  distinct_from (x ∷ xs) e = by (among x xs) refl (more x xs) (at_most xs) (distinct_from xs)
    where
      by : (b : Bool) → among x xs ≡ b → map.len (tabulate (x ∷ xs) f) ≡ cond b (map.len (tabulate xs f)) (map.len (tabulate xs f) + 1) → map.len (tabulate xs f) ≤ length xs
          → (map.len (tabulate xs f) ≡ length xs → IsDistinct is_same_address xs) → AllByRecursion (λ y. is_same_address x y ≡ false) xs × IsDistinct is_same_address xs
      by true is m h rest = absurd (omega (arith, e, m))
      by false is m h rest = (apart x xs is, rest (omega (arith, e, m)))

  pub distinct_to : (xs : List Address) → IsDistinct is_same_address xs → map.len (tabulate xs f) ≡ length xs
  unfolding IsDistinct
  distinct_to [] d = map.len-empty address_cmp ServerDescription
  distinct_to (x ∷ xs) d =
      let rest : map.len (tabulate xs f) ≡ length xs = distinct_to xs d.1 in
      more x xs ∙ ap (λ b. cond b (map.len (tabulate xs f)) (map.len (tabulate xs f) + 1)) (not_among x xs d.0) ∙ omega (arith, rest)
