-- Maps made by what is said of each host of a list.
use Rattle.std.proofs.Common.{◌≡◌, ℕ, suc, ◌+◌, ◌<◌, Bool, true, false, cond, ◌||◌, if◌then◌else◌, List, [], ◌∷◌, ◌++◌, map, Option, None, Some, refl, sym, ap, ◌∙◌, length, slice_get, take, get_or}
use Rattle.std.proofs.lemmas.Cmp.{eq_by_cmp_equiv}
use Rattle.std.proofs.lemmas.List.{take_more}
use Rattle.std.proofs.lemmas.Map.Entries.{lookup_from_place}
use Rattle.std.specs.Ordering.{eq_by_cmp}
use Rattle.std.specs.List.{list_any}
use Rattle.std.specs.Option.{unwrap_or}
use Rattle.std.specs.FinMap as map
use Rattle.std.specs.declared.sync.Arc.{Arc}
use Rattle.std.specs.Map.{lookup}
use Rattle.host_name.specs.Addresses.{Address, address_cmp, is_same_address, is_same_address-true}
use Rattle.hello_reply.specs.declared.server_description.ServerDescription.{ServerDescription}
use Rattle.hello_reply.specs.Descriptions.{unknown as default_unknown_of}
use Rattle.topo_rules.specs.Kinds.{is_primary}
use Rattle.topo_rules.specs.Maps.{ServerMap, StandAtHosts, tabulate, known_or_new, beside_primary}
use Rattle.topo_rules.specs.Seen.{by_host, described, seen}
use Rattle.host_name.proofs.HostOrder.{host_total}
use Rattle.topo_rules.proofs.HostTables.{same_from_test}
use Rattle.topo_rules.proofs.Places.{distinct_keys}

-- the host is one of the list
abbrev pub among : Address → List Address → Bool
among q xs = list_any (eq_by_cmp address_cmp q) xs

find-tabulate : (f : Address → ServerDescription) (q : Address) (xs : List Address) → map.find address_cmp q (map (λ x. (x, f x)) xs) ≡ cond (among q xs) (Some (f q)) None
find-tabulate f q [] = refl
find-tabulate f q (x ∷ xs) = by (eq_by_cmp address_cmp q x) refl (find-tabulate f q xs)
  where
    by : (b : Bool) → eq_by_cmp address_cmp q x ≡ b → map.find address_cmp q (map (λ x. (x, f x)) xs) ≡ cond (among q xs) (Some (f q)) None → cond b (Some (f x)) (map.find address_cmp q (map (λ x. (x, f x)) xs)) ≡ cond (b || among q xs) (Some (f q)) None
    by true e rest = ap (λ y. Some (f y)) (same_from_test q x e)
    by false e rest = rest

pub get-tabulate : (f : Address → ServerDescription) (q : Address) (xs : List Address) → map.get (tabulate xs f) q ≡ cond (among q xs) (Some (f q)) None
get-tabulate f q xs = map.get-from_entries host_total (map (λ x. (x, f x)) xs) q ∙ find-tabulate f q xs

lookup-find_by_order : {X : Type 0} (q : Address) (es : List (Address × X)) → lookup (eq_by_cmp address_cmp q) es ≡ map.find address_cmp q es
lookup-find_by_order q [] = refl
lookup-find_by_order q (e ∷ es) = ap (cond (eq_by_cmp address_cmp q e.0) (Some e.1)) (lookup-find_by_order q es)

-- what stands at a place is what the map says of its host
pub get_at : (m : ServerMap) (i : ℕ) (e : Address × ServerDescription) → slice_get (map.entries m) i ≡ Some e → map.get m e.0 ≡ Some e.1
get_at m i e at =
    map.get-entries m e.0 ∙ sym (lookup-find_by_order e.0 (map.entries m))
    ∙ lookup_from_place (eq_by_cmp_equiv host_total) (map.entries m) i e.0 e.1 (distinct_keys address_cmp (map.entries m) (map.entries_sorted m)) at

-- a list that is made of hosts, each beside its own host
by_host-map : (f : Address → ServerDescription) → ((x : Address) → (f x).host ≡ x) → (xs : List Address) → by_host (map f xs) ≡ map (λ x. (x, f x)) xs
by_host-map f own [] = refl
by_host-map f own (x ∷ xs) = λ i. (own x i, f x) ∷ by_host-map f own xs i

pub seen-tabulate : {Z : Type 0} (f : Address → ServerDescription) → ((x : Address) → (f x).host ≡ x) → (es : List (Arc ServerDescription Z)) (xs : List Address) → described es ≡ map f xs → seen es ≡ tabulate xs f
seen-tabulate f own es xs e = ap (λ ds. map.from_entries {R = address_cmp} (by_host ds)) e ∙ ap (λ fs. map.from_entries {R = address_cmp} fs) (by_host-map f own xs)

map-push : {A B : Type 0} (f : A → B) (xs : List A) (x : A) → map f (xs ++ x ∷ []) ≡ map f xs ++ f x ∷ []
map-push f [] x = refl
map-push f (y ∷ xs) x = ap (λ ys. f y ∷ ys) (map-push f xs x)

-- the step of a loop that makes one item of each
pub map_more : {A B : Type 0} (f : A → B) (xs : List A) (i : ℕ) (x : A) → i < length xs → x ≡ get_or xs i x → map f (take (i + 1) xs) ≡ map f (take i xs) ++ f x ∷ []
map_more f xs i x below is = ap (map f) (take_more xs i x below ∙ ap (λ y. take i xs ++ y ∷ []) (sym is)) ∙ map-push f (take i xs) x

map-append : {A B : Type 0} (f : A → B) (xs ys : List A) → map f (xs ++ ys) ≡ map f xs ++ map f ys
map-append f [] ys = refl
map-append f (x ∷ xs) ys = ap (λ zs. f x ∷ zs) (map-append f xs ys)

known-values : (m : ServerMap) (es : List (Address × ServerDescription)) → ((i : ℕ) (e : Address × ServerDescription) → slice_get es i ≡ Some e → map.get m e.0 ≡ Some e.1)
    → map (known_or_new m) (map (λ (e : Address × ServerDescription). e.0) es) ≡ map (λ (e : Address × ServerDescription). e.1) es
known-values m [] at = refl
known-values m (e ∷ es) at = λ j. unwrap_or (at 0 e refl j) (default_unknown_of e.0) ∷ known-values m es (λ i f is. at (suc i) f is) j

-- what the map has, and then what is known of further hosts
pub joined-values : (m : ServerMap) (xs : List Address) → map (known_or_new m) (map.keys m ++ xs) ≡ map.values m ++ map (known_or_new m) xs
joined-values m xs = map-append (known_or_new m) (map.keys m) xs ∙ ap (λ ds. ds ++ map (known_or_new m) xs) (known-values m (map.entries m) (get_at m))

pub known-host : (m : ServerMap) → StandAtHosts m → (x : Address) → (known_or_new m x).host ≡ x
known-host m own x = by (map.get m x) refl
  where
    by : (o : Option ServerDescription) → map.get m x ≡ o → (unwrap_or o (default_unknown_of x)).host ≡ x
    by None e = refl
    by (Some d) e = own.at x d e

pub beside-host : (m : ServerMap) (p : ServerDescription) → StandAtHosts m → (x : Address) → (beside_primary m p x).host ≡ x
beside-host m p own x = by (is_same_address x p.host) refl
  where
    rest : (b : Bool) → (if b then default_unknown_of x else known_or_new m x).host ≡ x
    rest true = refl
    rest false = known-host m own x

    by : (b : Bool) → is_same_address x p.host ≡ b → (if b then p else (if is_primary (known_or_new m x) then default_unknown_of x else known_or_new m x)).host ≡ x
    by true e = sym (is_same_address-true x p.host e)
    by false e = rest (is_primary (known_or_new m x))

pub take_none : {A : Type 0} (xs : List A) → take 0 xs ≡ []
take_none [] = refl
take_none (x ∷ xs) = refl
