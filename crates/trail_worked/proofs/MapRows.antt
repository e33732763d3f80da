-- Maps of hosts as the lists that they are made of: a map answers as its list does.
use Rattle.std.proofs.Common.{◌≡◌, arith, Bool, true, false, cond, not, List, [], ◌∷◌, map, filter, length, Option, None, refl, sym, ap, ◌∙◌}
use Rattle.std.specs.FinMap as map
use Rattle.std.specs.FinMap.Entries.{find-where_key}
use Rattle.std.specs.Ordering.{eq_by_cmp}
use Rattle.host_name.specs.Addresses.{Address, address_cmp}
use Rattle.host_name.proofs.HostOrder.{host_total, host_same}
use Rattle.std.proofs.lemmas.Cmp.{eq_by_cmp_equiv}
use Rattle.hello_reply.specs.declared.server_description.ServerDescription.{ServerDescription}
use Rattle.topo_rules.specs.Maps.{ServerMap}

-- hosts, each beside what is said of it; at a host that stands twice the first counts
abbrev pub Rows : Type 0
Rows = List (Address × ServerDescription)

abbrev pub map_of : Rows → ServerMap
map_of es = map.from_entries es

abbrev pub found : Rows → Address → Option ServerDescription
found es q = map.find address_cmp q es

-- in the order of hosts
abbrev pub in_order : Rows → Rows
in_order [] = []
in_order (e ∷ es) = map.put address_cmp e.0 e.1 (in_order es)

abbrev pub hosts_in : Rows → List Address
hosts_in es = map (λ e. e.0) (in_order es)

abbrev pub descriptions_in : Rows → List ServerDescription
descriptions_in es = map (λ e. e.1) (in_order es)

-- without a host
abbrev pub rows_without : Address → Rows → Rows
rows_without k es = filter (λ e. not (eq_by_cmp address_cmp k e.0)) es

no_rows : (es : Rows) → length es ≡ 0 → es ≡ []
no_rows [] e = refl
no_rows (x ∷ es) e = absurd (omega arith)

pub get-map_of : (es : Rows) (q : Address) → map.get (map_of es) q ≡ found es q
get-map_of es q = map.get-from_entries host_total es q

pub entries-map_of : (es : Rows) → map.entries (map_of es) ≡ in_order es
entries-map_of [] = no_rows _ (sym (map.len-entries (map_of [])) ∙ map.len-empty address_cmp ServerDescription)
entries-map_of (e ∷ es) = map.entries-insert host_total (map_of es) e.0 e.1 ∙ ap (map.put address_cmp e.0 e.1) (entries-map_of es)

pub keys-map_of : (es : Rows) → map.keys (map_of es) ≡ hosts_in es
keys-map_of es = ap (map (λ e. e.0)) (entries-map_of es)

pub values-map_of : (es : Rows) → map.values (map_of es) ≡ descriptions_in es
values-map_of es = ap (map (λ e. e.1)) (entries-map_of es)

turned : {A : Type 0} (b : Bool) (x y : A) → cond (not b) x y ≡ cond b y x
turned true x y = refl
turned false x y = refl

pub remove-map_of : (es : Rows) (k : Address) → map.remove (map_of es) k ≡ map_of (rows_without k es)
remove-map_of es k = map.same_map host_total host_same _ _ (λ q.
    map.get-remove host_total (map_of es) k q ∙ ap (λ o. cond (eq_by_cmp address_cmp q k) None o) (get-map_of es q)
    ∙ sym (get-map_of (rows_without k es) q
    ∙ find-where_key address_cmp (λ x. not (eq_by_cmp address_cmp k x)) q (λ x t. ap (λ y. not (eq_by_cmp address_cmp k y)) (sym (host_same q x t))) es
    ∙ turned (eq_by_cmp address_cmp k q) (found es q) None
    ∙ ap (λ b. cond b None (found es q)) ((eq_by_cmp_equiv host_total).symm k q)))
