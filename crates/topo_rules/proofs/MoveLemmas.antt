-- What a description that is put at a host that stands changes: nothing of the hosts, and the description there.
use Rattle.std.proofs.Common.{◌≡◌, ℕ, suc, Bool, true, false, cond, not, ◌↔◌, List, [], ◌∷◌, map, filter, Option, None, Some, IsSome, is_some, refl, sym, ap, subst, ◌∙◌, T, ◌&&◌, option_map, slice_get, true≢false}
use Rattle.std.specs.FinMap as map
use Rattle.std.specs.FinMap.Entries.{put, by_order, below_all}
use Rattle.std.specs.Cmp.{tied_itself}
use Rattle.std.specs.Ordering.{eq_by_cmp, is_eq, is_lt}
use Rattle.std.specs.declared.cmp.Ordering.{Ordering}
use Rattle.std.specs.declared.cmp.Ordering.TheVariants.{Less, Equal, Greater}
use Rattle.host_name.specs.Addresses.{Address, address_cmp}
use Rattle.hello_reply.specs.declared.server_description.ServerDescription.{ServerDescription}
use Rattle.topo_rules.specs.Changes.{hosts_beyond, meanless, plain}
use Rattle.topo_rules.specs.Maps.{ServerMap}
use Rattle.host_name.proofs.HostOrder.{host_total, host_same}
use Rattle.topo_rules.proofs.HostTables.{some_same}
use Rattle.topo_rules.proofs.Tabulate.{get_at}

abbrev Entry : Type 0
Entry = Address × ServerDescription

opener : Entry → Entry
opener e = (e.0, meanless e.1)

second : (a b : Bool) → T (a && b) → T b
second true b h = h
second false b h = absurd h

first : (a b : Bool) → T (a && b) → T a
first true b h = tt
first false b h = h

-- below all the keys there is nothing to find
none_below : (k : Address) (es : List Entry) → T (below_all address_cmp k es) → map.find address_cmp k es ≡ None
none_below k [] h = refl
none_below k (e ∷ es) h = by (address_cmp k e.0) (first _ _ h) (none_below k es (second _ _ h))
  where
    by : (r : Ordering) → T (is_lt r) → map.find address_cmp k es ≡ None → cond (is_eq r) (Some e.1) (map.find address_cmp k es) ≡ None
    by Less h rest = rest
    by Equal h rest = absurd h
    by Greater h rest = absurd h

less_chain : (k x : Address) (es : List Entry) → address_cmp k x ≡ Less → T (below_all address_cmp x es) → T (below_all address_cmp k es)
less_chain k x [] less h = tt
less_chain k x (e ∷ es) less h = both _ _ (subst (λ r. T (is_lt r)) (sym (host_total.trans k x e.0 less (is_less _ (first _ _ h)))) tt) (less_chain k x es less (second _ _ h))
  where
    both : (a b : Bool) → T a → T b → T (a && b)
    both true b p q = q
    both false b p q = p

    is_less : (r : Ordering) → T (is_lt r) → r ≡ Less
    is_less Less h = refl
    is_less Equal h = absurd h
    is_less Greater h = absurd h

-- a put at a key that stands changes the value there alone
module _ (A : Type 0) (f : Entry → A) (k : Address) (d e : ServerDescription) (same : f (k, d) ≡ f (k, e)) where
  pub map-put : (es : List Entry) → T (map.is_sorted address_cmp es) → map.find address_cmp k es ≡ Some e → map f (map.put address_cmp k d es) ≡ map f es
  map-put [] a at = absurd (true≢false (sym (ap is_some at)))
  map-put (x ∷ es) a at = by (address_cmp k x.0) refl at (map-put es (second _ _ a))
    where
      by : (r : Ordering) → address_cmp k x.0 ≡ r → cond (is_eq r) (Some x.1) (map.find address_cmp k es) ≡ Some e
          → (map.find address_cmp k es ≡ Some e → map f (map.put address_cmp k d es) ≡ map f es)
          → map f (by_order r ((k, d) ∷ x ∷ es) ((x.0, d) ∷ es) (x ∷ map.put address_cmp k d es)) ≡ map f (x ∷ es)
      by Less t at rest = absurd (true≢false (sym (ap is_some at) ∙ ap is_some (none_below k es (less_chain k x.0 es t (first _ _ a)))))
      by Equal t at rest =
          let key : k ≡ x.0 = host_same k x.0 t in
          ap (λ y. y ∷ map f es) (ap (λ y. f (y, d)) (sym key) ∙ same ∙ (λ i. f (key i, sym (some_same x.1 e at) i)))
      by Greater t at rest = ap (λ ys. f x ∷ ys) (rest at)

keys-insert : (m : ServerMap) (k : Address) (d e : ServerDescription) → map.get m k ≡ Some e → map.keys (map.insert m k d) ≡ map.keys m
keys-insert m k d e at =
    ap (map (λ (x : Entry). x.0)) (map.entries-insert host_total m k d)
    ∙ map-put Address (λ (x : Entry). x.0) k d e refl (map.entries m) (map.entries_sorted m) (sym (map.get-entries m k) ∙ at)

find-plain : (q : Address) (es : List Entry) → map.find address_cmp q (map (λ (e : Entry). let x : Entry = (e.0, meanless e.1) in x) es) ≡ option_map meanless (map.find address_cmp q es)
find-plain q [] = refl
find-plain q (e ∷ es) = by (eq_by_cmp address_cmp q e.0) (find-plain q es)
  where
    by : (b : Bool) → map.find address_cmp q (map (λ (e : Entry). let x : Entry = (e.0, meanless e.1) in x) es) ≡ option_map meanless (map.find address_cmp q es)
        → cond b (Some (meanless e.1)) (map.find address_cmp q (map (λ (e : Entry). let x : Entry = (e.0, meanless e.1) in x) es)) ≡ option_map meanless (cond b (Some e.1) (map.find address_cmp q es))
    by true h = refl
    by false h = h

-- the maps are plainly the same exactly where the two descriptions are, means aside
pub plain-insert : (m : ServerMap) (k : Address) (d e : ServerDescription) → map.get m k ≡ Some e → (meanless e ≡ meanless d) ↔ (plain m ≡ plain (map.insert m k d))
plain-insert m k d e at = (there, back)
  where
    there : meanless e ≡ meanless d → plain m ≡ plain (map.insert m k d)
    there same = sym (ap (map (λ (e : Entry). let x : Entry = (e.0, meanless e.1) in x)) (map.entries-insert host_total m k d)
        ∙ map-put Entry (λ (e : Entry). let x : Entry = (e.0, meanless e.1) in x) k d e (ap (λ z. let x : Entry = (k, z) in x) (sym same)) (map.entries m) (map.entries_sorted m) (sym (map.get-entries m k) ∙ at))

    back : plain m ≡ plain (map.insert m k d) → meanless e ≡ meanless d
    back same = some_same (meanless e) (meanless d) (
        ap (option_map meanless) (sym at ∙ map.get-entries m k) ∙ sym (find-plain k (map.entries m)) ∙ ap (map.find address_cmp k) same ∙ find-plain k (map.entries (map.insert m k d))
        ∙ ap (option_map meanless) (sym (map.get-entries (map.insert m k d) k) ∙ map.get-insert host_total m k d k ∙ ap (λ r. cond (is_eq r) (Some d) (map.get m k)) (tied_itself host_total k)))

none_kept : (p : Address → Bool) (es : List Entry) → ((i : ℕ) (e : Entry) → slice_get es i ≡ Some e → p e.0 ≡ false) → filter p (map (λ (e : Entry). e.0) es) ≡ []
none_kept p [] fails = refl
none_kept p (e ∷ es) fails = ap (λ b. cond b (e.0 ∷ filter p (map (λ (e : Entry). e.0) es)) (filter p (map (λ (e : Entry). e.0) es))) (fails 0 e refl) ∙ none_kept p es (λ i f at. fails (suc i) f at)

-- no host comes and none leaves
pub none_added : (m : ServerMap) (k : Address) (d e : ServerDescription) → map.get m k ≡ Some e → hosts_beyond (map.insert m k d) m ≡ []
none_added m k d e at =
    ap (filter (λ x. not (is_some (map.get m x)))) (keys-insert m k d e at)
    ∙ none_kept (λ x. not (is_some (map.get m x))) (map.entries m) (λ i f is. ap (λ o. not (is_some o)) (get_at m i f is))

pub none_removed : (m : ServerMap) (k : Address) (d e : ServerDescription) → map.get m k ≡ Some e → hosts_beyond m (map.insert m k d) ≡ []
none_removed m k d e at = none_kept (λ x. not (is_some (map.get (map.insert m k d) x))) (map.entries m) (λ i f is.
    ap (λ o. not (is_some o)) (map.get-insert host_total m k d f.0 ∙ ap (cond (eq_by_cmp address_cmp f.0 k) (Some d)) (get_at m i f is)) ∙ by (eq_by_cmp address_cmp f.0 k) f.1)
  where
    by : (b : Bool) (x : ServerDescription) → not (is_some (cond b (Some d) (Some x))) ≡ false
    by true x = refl
    by false x = refl

-- what stands at a host that stands
pub standing : (o : Option ServerDescription) → IsSome o → (e : ServerDescription) × (o ≡ Some e)
standing None h = absurd (true≢false (sym h))
standing (Some e) h = (e, refl)
