-- What the servers' map has at the host of each of its descriptions.
use Rattle.std.proofs.Common.{◌≡◌, ℕ, Bool, true, false, cond, ◌&&◌, List, [], ◌∷◌, Some, Ordering, refl, ap, ◌∙◌, T, filter, map}
use Rattle.std.proofs.lemmas.Cmp.{nat_cmp_total, nat_list_cmp_total}
use Rattle.std.proofs.lemmas.List.Elements.{All-nil, All-cons, All-head, All-tail, All-weaker, All-map, All-filter}
use Rattle.std.specs.Cmp.{IsTotalOrder, then_total, on_total, tied_itself}
use Rattle.std.specs.FinMap as map
use Rattle.std.specs.FinMap.Entries.{below_all}
use Rattle.std.specs.List.{All}
use Rattle.std.specs.Option.{option_and_then, unwrap_or}
use Rattle.std.specs.Ordering.{is_eq, is_lt, ordering_reverse}
use Rattle.std.specs.declared.cmp.Ordering.TheVariants.{Less, Equal, Greater}
use Rattle.host_name.specs.Addresses.{Address, address_cmp}
use Rattle.hello_reply.specs.declared.server_description.ServerDescription.{ServerDescription}
use Rattle.topo_rules.specs.Maps.{ServerMap, StandAtHosts}
use Rattle.server_pick.specs.Candidates.{candidate_of}
use Rattle.server_pick.specs.Prepared.{IsTrueTo}

host_total : IsTotalOrder address_cmp
host_total = then_total (on_total (λ (h : Address). h.name) nat_list_cmp_total) (on_total (λ (h : Address). h.port) nat_cmp_total)

and_first : (a b : Bool) → T (a && b) → T a
and_first true b h = tt
and_first false b h = h

and_second : (a b : Bool) → T (a && b) → T b
and_second true b h = h
and_second false b h = absurd h

less_is : (r : Ordering) → T (is_lt r) → r ≡ Less
less_is Less h = refl
less_is Equal h = absurd h
less_is Greater h = absurd h

module _ {K X : Type 0} (R : K → K → Ordering) (o : IsTotalOrder R) where
  -- what is found in the rest is found with a lesser key ahead
  later : (k : K) (v : X) (fs gs : List (K × X)) → T (below_all R k fs) → All (λ f. map.find R f.0 gs ≡ Some f.1) fs → All (λ f. map.find R f.0 ((k, v) ∷ gs) ≡ Some f.1) fs
  later k v [] gs h a = All-nil (λ f. map.find R f.0 ((k, v) ∷ gs) ≡ Some f.1)
  later k v (f ∷ fs) gs h a =
      let less : R k f.0 ≡ Less = less_is (R k f.0) (and_first (is_lt (R k f.0)) (below_all R k fs) h) in
      let turned : R f.0 k ≡ Greater = o.antisymm f.0 k ∙ ap ordering_reverse less in
      let here : map.find R f.0 gs ≡ Some f.1 = All-head (λ e. map.find R e.0 gs ≡ Some e.1) f fs a in
      let past : map.find R f.0 ((k, v) ∷ gs) ≡ map.find R f.0 gs = ap (λ r. cond (is_eq r) (Some v) (map.find R f.0 gs)) turned in
      All-cons (λ e. map.find R e.0 ((k, v) ∷ gs) ≡ Some e.1) f fs (past ∙ here)
      (later k v fs gs (and_second (is_lt (R k f.0)) (below_all R k fs) h) (All-tail (λ e. map.find R e.0 gs ≡ Some e.1) f fs a))

  pub found_all : (es : List (K × X)) → T (map.is_sorted R es) → All (λ e. map.find R e.0 es ≡ Some e.1) es
  found_all [] h = All-nil (λ e. map.find R e.0 [] ≡ Some e.1)
  found_all (e ∷ es) h =
      let first : map.find R e.0 (e ∷ es) ≡ Some e.1 = ap (λ r. cond (is_eq r) (Some e.1) (map.find R e.0 es)) (tied_itself o e.0) in
      All-cons (λ f. map.find R f.0 (e ∷ es) ≡ Some f.1) e es first
      (later e.0 e.1 es es (and_first (below_all R e.0 es) (map.is_sorted R es) h) (found_all es (and_second (below_all R e.0 es) (map.is_sorted R es) h)))

at_entry : (m : ServerMap) → StandAtHosts m → (e : Address × ServerDescription) → map.find address_cmp e.0 (map.entries m) ≡ Some e.1 → map.get m e.1.host ≡ Some e.1
at_entry m stand e h = let g : map.get m e.0 ≡ Some e.1 = map.get-entries m e.0 ∙ h in ap (map.get m) (stand.at e.0 e.1 g) ∙ g

-- each description stands at its own host
pub found_at_host : (m : ServerMap) → StandAtHosts m → All (λ d. map.get m d.host ≡ Some d) (map.values m)
found_at_host m stand =
    All-map (λ (d : ServerDescription). map.get m d.host ≡ Some d) (λ (e : Address × ServerDescription). e.1) (map.entries m)
    (All-weaker (λ (e : Address × ServerDescription). map.find address_cmp e.0 (map.entries m) ≡ Some e.1) (λ (e : Address × ServerDescription). map.get m e.1.host ≡ Some e.1) (at_entry m stand)
    (map.entries m) (found_all address_cmp host_total (map.entries m) (map.entries_sorted m)))

true_at : (m : ServerMap) (load : Address → ℕ) (d : ServerDescription) → map.get m d.host ≡ Some d → IsTrueTo m load (candidate_of load d)
true_at m load d g = record { mean = ap (λ o. unwrap_or (option_and_then (λ (s : ServerDescription). s.mean) o) 0) g; in_flight = refl }

-- so the candidates say what the map says of their hosts
pub candidates_true : (m : ServerMap) (load : Address → ℕ) (p : ServerDescription → Bool) → StandAtHosts m → All (IsTrueTo m load) (map (candidate_of load) (filter p (map.values m)))
candidates_true m load p stand =
    All-map (IsTrueTo m load) (candidate_of load) (filter p (map.values m))
    (All-filter p (λ d. IsTrueTo m load (candidate_of load d)) (map.values m)
    (All-weaker (λ (d : ServerDescription). map.get m d.host ≡ Some d) (λ d. IsTrueTo m load (candidate_of load d)) (true_at m load) (map.values m) (found_at_host m stand)))
