-- The map that a table of descriptions stands for, and what is read off a table that stands in order.
use Rattle.std.proofs.Common.{◌≡◌, ℕ, Bool, true, false, cond, List, [], ◌∷◌, map, Option, None, Some, is_some, refl, sym, ap, subst, ◌∙◌, T, slice_get, option_map, length, true≢false}
use Rattle.std.proofs.lemmas.List.{length-map}
use Rattle.std.proofs.lemmas.Option.{slice_get-map}
use Rattle.std.specs.Arc.{arc_value}
use Rattle.std.specs.declared.sync.Arc.{Arc}
use Rattle.std.specs.FinMap as map
use Rattle.std.specs.List.Sorted.{IsStrictlySortedBy}
use Rattle.std.specs.Map.{keys_of}
use Rattle.std.specs.Option.{unwrap_or}
use Rattle.std.specs.Ordering.{eq_by_cmp, is_eq}
use Rattle.std.specs.declared.cmp.Ordering.{Ordering}
use Rattle.std.specs.declared.cmp.Ordering.TheVariants.{Less, Equal, Greater}
use Rattle.host_name.specs.Addresses.{Address, address_cmp}
use Rattle.hello_reply.specs.declared.server_description.ServerDescription.{ServerDescription}
use Rattle.topo_rules.specs.Maps.{ServerMap, StandAtHosts, StandInOrder}
use Rattle.topo_rules.specs.Seen.{by_host, described, seen}
use Rattle.host_name.proofs.HostOrder.{host_total, host_same}
use Rattle.topo_rules.proofs.Places.{entries-from_entries, strict_keys}

pub some_same : {A : Type 0} (x y : A) → Some x ≡ Some y → x ≡ y
some_same x y e = ap (λ o. unwrap_or o x) e

pub equal_is : (r : Ordering) → is_eq r ≡ true → r ≡ Equal
equal_is Less e = absurd (true≢false (sym e))
equal_is Equal e = refl
equal_is Greater e = absurd (true≢false (sym e))

pub same_from_test : (q x : Address) → eq_by_cmp address_cmp q x ≡ true → x ≡ q
same_from_test q x e = sym (host_same q x (equal_is (address_cmp q x) e))

-- the list without the pointers
module _ (ds : List ServerDescription) where
  pub entries-by_host : T (map.is_sorted address_cmp (by_host ds)) → map.entries (map.from_entries {R = address_cmp} (by_host ds)) ≡ by_host ds
  entries-by_host a = entries-from_entries address_cmp host_total host_same (by_host ds) a

values-by_host : (ds : List ServerDescription) → map (λ (e : Address × ServerDescription). e.1) (by_host ds) ≡ ds
values-by_host [] = refl
values-by_host (d ∷ ds) = ap (λ xs. d ∷ xs) (values-by_host ds)

found_at_host : (q : Address) (ds : List ServerDescription) (d : ServerDescription) → map.find address_cmp q (by_host ds) ≡ Some d → d.host ≡ q
found_at_host q [] d e = absurd (true≢false (sym (ap is_some e)))
found_at_host q (x ∷ ds) d e = by (eq_by_cmp address_cmp q x.host) refl (found_at_host q ds d) e
  where
    by : (b : Bool) → eq_by_cmp address_cmp q x.host ≡ b → (map.find address_cmp q (by_host ds) ≡ Some d → d.host ≡ q) → cond b (Some x) (map.find address_cmp q (by_host ds)) ≡ Some d → d.host ≡ q
    by true t rest e = ap (λ (z : ServerDescription). z.host) (sym (some_same x d e)) ∙ same_from_test q x.host t
    by false t rest e = rest e

module _ {Z : Type 0} (es : List (Arc ServerDescription Z)) where
  -- what stands at a host is its description
  pub seen-at_hosts : StandAtHosts (seen es)
  seen-at_hosts = record { at = λ x d e. found_at_host x (described es) d (sym (map.get-from_entries host_total (by_host (described es)) x) ∙ e) }

  module _ (a : T (map.is_sorted address_cmp (by_host (described es)))) where
    pub values-seen : map.values (seen es) ≡ described es
    values-seen = ap (map (λ (e : Address × ServerDescription). e.1)) (entries-by_host (described es) a) ∙ values-by_host (described es)

    pub len-seen : map.len (seen es) ≡ length es
    len-seen =
        map.len-entries (seen es) ∙ ap length (entries-by_host (described es) a)
        ∙ length-map (described es) (λ (d : ServerDescription). let x : Address × ServerDescription = (d.host, d) in x) ∙ length-map es (λ (s : Arc ServerDescription Z). arc_value s)

    pub entry-seen : (i : ℕ) → slice_get (map.entries (seen es)) i ≡ option_map (λ (s : Arc ServerDescription Z). let x : Address × ServerDescription = ((arc_value s).host, arc_value s) in x) (slice_get es i)
    entry-seen i =
        ap (λ fs. slice_get fs i) (entries-by_host (described es) a)
        ∙ slice_get-map (λ (d : ServerDescription). let x : Address × ServerDescription = (d.host, d) in x) (described es) i
        ∙ ap (option_map (λ (d : ServerDescription). let x : Address × ServerDescription = (d.host, d) in x)) (slice_get-map (λ (s : Arc ServerDescription Z). arc_value s) es i)
        ∙ twice (slice_get es i)
      where
        twice : (o : Option (Arc ServerDescription Z)) → option_map (λ (d : ServerDescription). let x : Address × ServerDescription = (d.host, d) in x) (option_map (λ (s : Arc ServerDescription Z). arc_value s) o) ≡ option_map (λ (s : Arc ServerDescription Z). let x : Address × ServerDescription = ((arc_value s).host, arc_value s) in x) o
        twice None = refl
        twice (Some s) = refl

    pub value-seen : (i : ℕ) → slice_get (map.values (seen es)) i ≡ option_map (λ (s : Arc ServerDescription Z). arc_value s) (slice_get es i)
    value-seen i = ap (λ ds. slice_get ds i) values-seen ∙ slice_get-map (λ (s : Arc ServerDescription Z). arc_value s) es i

-- every map stands in order
pub in_order : (m : ServerMap) → StandInOrder m
in_order m = record { rise = subst (IsStrictlySortedBy address_cmp) (keys_are (map.entries m)) (strict_keys address_cmp (map.entries m) (map.entries_sorted m)) }
  where
    keys_are : (es : List (Address × ServerDescription)) → keys_of es ≡ map (λ (e : Address × ServerDescription). e.0) es
    keys_are [] = refl
    keys_are (e ∷ es) = ap (λ ks. e.0 ∷ ks) (keys_are es)
