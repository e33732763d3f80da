-- Topologies over lists of hosts: the rules of an event, computed on the list, make what they make of the map.
use Rattle.std.proofs.Common.{◌≡◌, ℕ, ℤ, Bool, true, false, ◌&&◌, ◌||◌, ◌==◌, if◌then◌else◌, List, ◌∷◌, ◌++◌, map, Option, None, Some, refl, ap, ◌∙◌}
use Rattle.std.specs.Option.{option_and_then, option_or, unwrap_or}
use Rattle.std.specs.List.{list_any}
use Rattle.std.specs.FinMap as map
use Rattle.host_name.specs.Addresses.{Address, is_same_address}
use Rattle.rtt_mean.specs.Mean.{next_mean}
use Rattle.bson_doc.specs.declared.ids.Oid.{Oid}
use Rattle.hello_reply.specs.declared.server_description.ServerDescription.{ServerDescription}
use Rattle.hello_reply.specs.Descriptions.{unknown as default_unknown_of}
use Rattle.topo_rules.specs.declared.kind.TopoKind.{TopoKind}
use Rattle.topo_rules.specs.declared.kind.TopoKind.TheVariants as topo
use Rattle.topo_rules.specs.declared.cell.Cell.{Cell}
use Rattle.topo_rules.specs.declared.cell.Cell.TheVariants.{UpdateSingle, Keep, Remove, UpdateUnknownWithStandalone, BecomeSharded, BecomeWithPrimary, BecomeNoPrimary, UpdateFromPrimary, UpdateWithoutPrimary, UpdateWithPrimaryFromMember, CheckIfHasPrimary, RemoveAndCheck}
use Rattle.topo_rules.specs.declared.event.TopoEvent.{TopoEvent}
use Rattle.topo_rules.specs.declared.event.TopoEvent.TheVariants.{Reply, Broken, Refused}
use Rattle.topo_rules.specs.declared.maxima.Maxima.{Maxima}
use Rattle.topo_rules.specs.declared.topology.Topology.{Topology}
use Rattle.topo_rules.specs.Cells.{cell_of}
use Rattle.topo_rules.specs.Kinds.{is_known, is_primary}
use Rattle.topo_rules.specs.Maps.{tabulate, known_or_new, kept_mean, joined, beside_primary, servers_of_primary, has_primary}
use Rattle.topo_rules.specs.Primaries.{judged}
use Rattle.topo_rules.specs.Rules.{fresh, name_differs, me_differs, placed, settled, after, without, check_if_has_primary, with_verdict, update_rs_from_primary, update_rs_without_primary, update_rs_with_primary_from_member}
use Rattle.trail_worked.proofs.MapRows.{Rows, map_of, found, hosts_in, descriptions_in, rows_without, get-map_of, keys-map_of, values-map_of, remove-map_of}

pub record Listed : Type 0 where
  pub kind : TopoKind
  pub set_name : Option (List ℕ)
  pub max_election : Option Oid
  pub max_set_version : Option ℤ
  pub seeds : ℕ
  pub direct : Bool
  pub rows : Rows

-- the topology that it stands for
abbrev pub shown : Listed → Topology
shown l = record {
  kind = l.kind;
  set_name = l.set_name;
  max_election = l.max_election;
  max_set_version = l.max_set_version;
  seeds = l.seeds;
  direct = l.direct;
  servers = map_of l.rows;
}

-- ---- the rules on lists

abbrev pub known_row : Rows → Address → ServerDescription
known_row es x = unwrap_or (found es x) (default_unknown_of x)

abbrev pub mean_in : Rows → Address → Option ℕ
mean_in es host = option_and_then (λ d. d.mean) (found es host)

abbrev pub fresh_row : Rows → TopoEvent → ServerDescription
fresh_row es (Reply description sample) =
    record description {
      mean = if is_known description then Some (next_mean (mean_in es description.host) sample) else None;
    }
fresh_row es (Broken host generation) = default_unknown_of host
fresh_row es (Refused host version generation shutdown) = record (default_unknown_of host) { version = version }

abbrev pub rows_for : List Address → (Address → ServerDescription) → Rows
rows_for hosts f = map (λ x. (x, f x)) hosts

abbrev pub any_primary : Rows → Bool
any_primary es = list_any is_primary (descriptions_in es)

abbrev pub checked_listed : Listed → Listed
checked_listed l = record l { kind = if any_primary l.rows then topo.WithPrimary else topo.NoPrimary }

abbrev pub listed_without : Listed → Address → Listed
listed_without l host = record l { rows = rows_without host l.rows }

abbrev pub listed_with : Listed → Address → ServerDescription → Listed
listed_with l host d = record l { rows = (host, d) ∷ l.rows }

abbrev pub beside_row : Rows → ServerDescription → Address → ServerDescription
beside_row es d x =
    if is_same_address x d.host then d
    else (let old = known_row es x in if is_primary old then default_unknown_of x else old)

abbrev pub joined_rows : Rows → List Address → Rows
joined_rows es hosts = rows_for (hosts_in es ++ hosts) (known_row es)

abbrev pub rows_of_primary : Rows → ServerDescription → Rows
rows_of_primary es d = rows_for d.listed (beside_row es d)

abbrev pub listed_verdict : Listed → ServerDescription → Option Maxima → Listed
listed_verdict l d None = listed_with l d.host (default_unknown_of d.host)
listed_verdict l d (Some most) = record l { max_election = most.election; max_set_version = most.version; rows = rows_of_primary l.rows d }

abbrev pub named_listed : Listed → Option (List ℕ) → Listed
named_listed l came = record l { set_name = option_or l.set_name came }

abbrev pub listed_from_primary : Listed → ServerDescription → Listed
listed_from_primary l d =
    checked_listed (if name_differs l.set_name d.set_name then listed_without l d.host
    else listed_verdict (named_listed l d.set_name) d (judged d (record { election = l.max_election; version = l.max_set_version })))

abbrev pub rows_joined : Rows → ServerDescription → Rows
rows_joined es d = let all = joined_rows es d.listed in if me_differs d then rows_without d.host all else all

abbrev pub listed_without_primary : Listed → ServerDescription → Listed
listed_without_primary l d =
    if name_differs l.set_name d.set_name then listed_without l d.host
    else record l { set_name = option_or l.set_name d.set_name; rows = rows_joined l.rows d }

abbrev pub listed_from_member : Listed → ServerDescription → Listed
listed_from_member l d =
    checked_listed (if name_differs l.set_name d.set_name || me_differs d then listed_without l d.host else l)

abbrev pub listed_by : Cell → Listed → ServerDescription → Listed
listed_by UpdateSingle l d = if is_known d && name_differs l.set_name d.set_name then listed_with l d.host (default_unknown_of d.host) else l
listed_by Keep l d = l
listed_by Remove l d = listed_without l d.host
listed_by UpdateUnknownWithStandalone l d = if l.seeds == 1 then record l { kind = topo.Single } else listed_without l d.host
listed_by BecomeSharded l d = record l { kind = topo.Sharded }
listed_by BecomeWithPrimary l d = listed_from_primary (record l { kind = topo.WithPrimary }) d
listed_by BecomeNoPrimary l d = listed_without_primary (record l { kind = topo.NoPrimary }) d
listed_by UpdateFromPrimary l d = listed_from_primary l d
listed_by UpdateWithoutPrimary l d = listed_without_primary l d
listed_by UpdateWithPrimaryFromMember l d = listed_from_member l d
listed_by CheckIfHasPrimary l d = checked_listed l
listed_by RemoveAndCheck l d = checked_listed (listed_without l d.host)

abbrev pub listed_after : Listed → TopoEvent → Listed
listed_after l event =
    let d = fresh_row l.rows event in listed_by (cell_of l.kind d.kind) (listed_with l d.host d) d

-- ---- and what they make

known_or_new-row : (es : Rows) (x : Address) → known_or_new (map_of es) x ≡ known_row es x
known_or_new-row es x = ap (λ o. unwrap_or o (default_unknown_of x)) (get-map_of es x)

kept_mean-row : (es : Rows) (host : Address) → kept_mean (map_of es) host ≡ mean_in es host
kept_mean-row es host = ap (λ (o : Option ServerDescription). option_and_then (λ d. d.mean) o) (get-map_of es host)

fresh-row : (es : Rows) (event : TopoEvent) → fresh (map_of es) event ≡ fresh_row es event
fresh-row es (Reply description sample) = ap (λ m. record description { mean = if is_known description then Some (next_mean m sample) else None }) (kept_mean-row es description.host)
fresh-row es (Broken host generation) = refl
fresh-row es (Refused host version generation shutdown) = refl

has_primary-row : (es : Rows) → has_primary (map_of es) ≡ any_primary es
has_primary-row es = ap (list_any is_primary) (values-map_of es)

checked-shown : (l : Listed) → check_if_has_primary (shown l) ≡ shown (checked_listed l)
checked-shown l = ap (λ b. record (shown l) { kind = if b then topo.WithPrimary else topo.NoPrimary }) (has_primary-row l.rows)

without-shown : (l : Listed) (host : Address) → without (shown l) host ≡ shown (listed_without l host)
without-shown l host = ap (λ m. record (shown l) { servers = m }) (remove-map_of l.rows host)

beside-row : (es : Rows) (d : ServerDescription) (x : Address) → beside_primary (map_of es) d x ≡ beside_row es d x
beside-row es d x =
    ap (λ (old : ServerDescription). if is_same_address x d.host then d else (if is_primary old then default_unknown_of x else old)) (known_or_new-row es x)

of_primary-row : (es : Rows) (d : ServerDescription) → servers_of_primary (map_of es) d ≡ map_of (rows_of_primary es d)
of_primary-row es d = ap (λ f. tabulate d.listed f) (λ i x. beside-row es d x i)

joined-row : (es : Rows) (hosts : List Address) → joined (map_of es) hosts ≡ map_of (joined_rows es hosts)
joined-row es hosts =
    ap (λ f. tabulate (map.keys (map_of es) ++ hosts) f) (λ i x. known_or_new-row es x i)
    ∙ ap (λ xs. tabulate (xs ++ hosts) (known_row es)) (keys-map_of es)

verdict-shown : (l : Listed) (d : ServerDescription) (m : Option Maxima) → with_verdict (shown l) d m ≡ shown (listed_verdict l d m)
verdict-shown l d None = refl
verdict-shown l d (Some most) =
    ap (λ m. record (shown l) { max_election = most.election; max_set_version = most.version; servers = m }) (of_primary-row l.rows d)

either : (b : Bool) (s t : Topology) (l k : Listed) → s ≡ shown l → t ≡ shown k → (if b then s else t) ≡ shown (if b then l else k)
either true s t l k e f = e
either false s t l k e f = f

from_primary-shown : (l : Listed) (d : ServerDescription) → update_rs_from_primary (shown l) d ≡ shown (listed_from_primary l d)
from_primary-shown l d =
    let b = name_differs l.set_name d.set_name in
    let most = judged d (record { election = l.max_election; version = l.max_set_version }) in
    ap check_if_has_primary (either b _ _ (listed_without l d.host) (listed_verdict (named_listed l d.set_name) d most)
    (without-shown l d.host) (verdict-shown (named_listed l d.set_name) d most))
    ∙ checked-shown (if b then listed_without l d.host else listed_verdict (named_listed l d.set_name) d most)

all_joined : (b : Bool) (es : Rows) (d : ServerDescription) →
    (let all = joined (map_of es) d.listed in if b then map.remove all d.host else all)
    ≡ map_of (let all = joined_rows es d.listed in if b then rows_without d.host all else all)
all_joined true es d = ap (λ m. map.remove m d.host) (joined-row es d.listed) ∙ remove-map_of (joined_rows es d.listed) d.host
all_joined false es d = joined-row es d.listed

without_primary-shown : (l : Listed) (d : ServerDescription) → update_rs_without_primary (shown l) d ≡ shown (listed_without_primary l d)
without_primary-shown l d =
    either (name_differs l.set_name d.set_name) _ _ (listed_without l d.host)
    (record l { set_name = option_or l.set_name d.set_name; rows = rows_joined l.rows d })
    (without-shown l d.host)
    (ap (λ m. record (shown l) { set_name = option_or l.set_name d.set_name; servers = m }) (all_joined (me_differs d) l.rows d))

from_member-shown : (l : Listed) (d : ServerDescription) → update_rs_with_primary_from_member (shown l) d ≡ shown (listed_from_member l d)
from_member-shown l d =
    let b = name_differs l.set_name d.set_name || me_differs d in
    ap check_if_has_primary (either b _ _ (listed_without l d.host) l (without-shown l d.host) refl)
    ∙ checked-shown (if b then listed_without l d.host else l)

settled-shown : (cell : Cell) (l : Listed) (d : ServerDescription) → settled cell (shown l) d ≡ shown (listed_by cell l d)
settled-shown UpdateSingle l d = either (is_known d && name_differs l.set_name d.set_name) _ _ (listed_with l d.host (default_unknown_of d.host)) l refl refl
settled-shown Keep l d = refl
settled-shown Remove l d = without-shown l d.host
settled-shown UpdateUnknownWithStandalone l d = either (l.seeds == 1) _ _ (record l { kind = topo.Single }) (listed_without l d.host) refl (without-shown l d.host)
settled-shown BecomeSharded l d = refl
settled-shown BecomeWithPrimary l d = from_primary-shown (record l { kind = topo.WithPrimary }) d
settled-shown BecomeNoPrimary l d = without_primary-shown (record l { kind = topo.NoPrimary }) d
settled-shown UpdateFromPrimary l d = from_primary-shown l d
settled-shown UpdateWithoutPrimary l d = without_primary-shown l d
settled-shown UpdateWithPrimaryFromMember l d = from_member-shown l d
settled-shown CheckIfHasPrimary l d = checked-shown l
settled-shown RemoveAndCheck l d = ap check_if_has_primary (without-shown l d.host) ∙ checked-shown (listed_without l d.host)

pub after-shown : (l : Listed) (event : TopoEvent) → after (shown l) event ≡ shown (listed_after l event)
after-shown l event =
    ap (λ (d : ServerDescription). settled (cell_of l.kind d.kind) (placed (shown l) d) d) (fresh-row l.rows event)
    ∙ (let d = fresh_row l.rows event in settled-shown (cell_of l.kind d.kind) (listed_with l d.host d) d)
