-- How a topology begins and how an event changes it (SDAM, Updating the TopologyDescription).
use Rattle.std.specs.Prelude.{ℕ, Bool, true, false, not, ◌&&◌, ◌||◌, ◌==◌, if◌then◌else◌, List, length, Option, None, Some, is_some, nat_eq}
use Rattle.std.specs.Option.{option_map_or, option_eq, option_or}
use Rattle.std.specs.Cmp.Lexicographic.{pointwise}
use Rattle.std.specs.FinMap as map
use Rattle.host_name.specs.Addresses.{Address, is_same_address}
use Rattle.rtt_mean.specs.Mean.{next_mean}
use Rattle.hello_reply.specs.declared.server_description.ServerDescription.{ServerDescription}
use Rattle.hello_reply.specs.Descriptions.{unknown as default_unknown_of}
use Rattle.topo_rules.specs.declared.kind.TopoKind.{TopoKind}
use Rattle.topo_rules.specs.declared.kind.TopoKind.TheVariants as topo
use Rattle.topo_rules.specs.declared.cell.Cell.{Cell}
use Rattle.topo_rules.specs.declared.cell.Cell.TheVariants.{UpdateSingle, Keep, Remove, UpdateUnknownWithStandalone, BecomeSharded, BecomeWithPrimary, BecomeNoPrimary, UpdateFromPrimary, UpdateWithoutPrimary, UpdateWithPrimaryFromMember, CheckIfHasPrimary, RemoveAndCheck}
use Rattle.topo_rules.specs.declared.event.TopoEvent.{TopoEvent}
use Rattle.topo_rules.specs.declared.event.TopoEvent.TheVariants.{Reply, Broken, Refused}
use Rattle.topo_rules.specs.declared.maxima.Maxima.{Maxima}
use Rattle.topo_rules.specs.declared.topology.Topology.{Topology}
use Rattle.topo_rules.specs.Cells.{cell_of}
use Rattle.topo_rules.specs.Kinds.{is_known}
use Rattle.topo_rules.specs.Maps.{ServerMap, kept_mean, tabulate, joined, servers_of_primary, has_primary}
use Rattle.topo_rules.specs.Primaries.{judged}

-- ---- The start

-- A direct connection gives Single; else a set name gives NoPrimary, and none Unknown (SDAM, Initial TopologyType).
abbrev pub start_kind : Option (List ℕ) → Bool → TopoKind
start_kind name true = topo.Single
start_kind None false = topo.Unknown
start_kind (Some name) false = topo.NoPrimary

-- The topology of the seeds, each a default Unknown (SDAM, Initial Servers).
abbrev pub opened : List Address → Option (List ℕ) → Bool → Topology
opened hosts name direct = record {
  kind = start_kind name direct;
  set_name = name;
  max_election = None;
  max_set_version = None;
  seeds = length hosts;
  direct = direct;
  servers = tabulate hosts default_unknown_of;
}

-- ---- The new description

abbrev pub event_host : TopoEvent → Address
event_host (Reply description sample) = description.host
event_host (Broken host generation) = host
event_host (Refused host version generation shutdown) = host

-- What an event says of its host. A reply's description, with the mean round trip time behind the reply, which an Unknown
-- has not (Server Selection, Round Trip Times); a default Unknown where a check or a connection broke; a default Unknown
-- with the error's topology version where a command was refused by a state change error (SDAM, Error handling).
abbrev pub fresh : ServerMap → TopoEvent → ServerDescription
fresh m (Reply description sample) =
    record description {
      mean = if is_known description then Some (next_mean (kept_mean m description.host) sample) else None;
    }
fresh m (Broken host generation) = default_unknown_of host
fresh m (Refused host version generation shutdown) = record (default_unknown_of host) { version = version }

-- ---- The rules, with the names of the standard's pseudo code

-- The topology knows a set name, and what came is another one or none.
abbrev pub name_differs : Option (List ℕ) → Option (List ℕ) → Bool
name_differs known came = is_some known && not (option_eq (pointwise nat_eq) known came)

-- `me` is there and is not the server's own host. Own: an absent `me` is accepted.
abbrev pub me_differs : ServerDescription → Bool
me_differs d = option_map_or (λ me. not (is_same_address me d.host)) d.me false

-- checkIfHasPrimary: the kind is WithPrimary where some server is a primary, else NoPrimary.
abbrev pub check_if_has_primary : Topology → Topology
check_if_has_primary t = record t { kind = if has_primary t.servers then topo.WithPrimary else topo.NoPrimary }

abbrev pub without : Topology → Address → Topology
without t host = record t { servers = map.remove t.servers host }

abbrev pub placed : Topology → ServerDescription → Topology
placed t d = record t { servers = map.insert t.servers d.host d }

-- A default Unknown stands at the host.
abbrev pub set_unknown : Topology → Address → Topology
set_unknown t host = record t { servers = map.insert t.servers host (default_unknown_of host) }

-- The set name stays, or is taken where none is known.
abbrev pub taken_name : Topology → Option (List ℕ) → Topology
taken_name t came = record t { set_name = option_or t.set_name came }

-- TopologyType Single: the description is kept, but a default Unknown stands in its place where it is known, the topology has
-- a set name, and the description another one or none. An Unknown stays as it is, with the topology version that a refusal
-- gave it.
abbrev pub update_single : Topology → ServerDescription → Topology
update_single t d = if is_known d && name_differs t.set_name d.set_name then set_unknown t d.host else t

-- updateUnknownWithStandalone: the only seed makes the topology Single; another standalone is removed.
abbrev pub update_unknown_with_standalone : Topology → ServerDescription → Topology
update_unknown_with_standalone t d = if t.seeds == 1 then record t { kind = topo.Single } else without t d.host

-- updateRSWithoutPrimary: a server of another set is removed; else the set name stays or is taken, each listed host that is
-- not there is added, and a server whose `me` is another host is removed.
abbrev pub update_rs_without_primary : Topology → ServerDescription → Topology
update_rs_without_primary t d =
    if name_differs t.set_name d.set_name then without t d.host
    else (let all = joined t.servers d.listed in
    record t { set_name = option_or t.set_name d.set_name; servers = if me_differs d then map.remove all d.host else all })

-- updateRSWithPrimaryFromMember: a server of another set, or whose `me` is another host, is removed.
abbrev pub update_rs_with_primary_from_member : Topology → ServerDescription → Topology
update_rs_with_primary_from_member t d =
    check_if_has_primary (if name_differs t.set_name d.set_name || me_differs d then without t d.host else t)

-- What a primary's verdict makes: a stale primary becomes a default Unknown; of another one the maxima behind it are taken,
-- and the servers are those that it lists.
abbrev pub with_verdict : Topology → ServerDescription → Option Maxima → Topology
with_verdict t d None = set_unknown t d.host
with_verdict t d (Some most) = record t { max_election = most.election; max_set_version = most.version; servers = servers_of_primary t.servers d }

-- updateRSFromPrimary: a server of another set is removed; else the set name stays or is taken, and the primary is judged.
abbrev pub update_rs_from_primary : Topology → ServerDescription → Topology
update_rs_from_primary t d =
    check_if_has_primary (if name_differs t.set_name d.set_name then without t d.host
    else with_verdict (taken_name t d.set_name) d (judged d (record { election = t.max_election; version = t.max_set_version })))

-- What a cell makes of a topology that has the new description already.
abbrev pub settled : Cell → Topology → ServerDescription → Topology
settled UpdateSingle t d = update_single t d
settled Keep t d = t
settled Remove t d = without t d.host
settled UpdateUnknownWithStandalone t d = update_unknown_with_standalone t d
settled BecomeSharded t d = record t { kind = topo.Sharded }
settled BecomeWithPrimary t d = update_rs_from_primary (record t { kind = topo.WithPrimary }) d
settled BecomeNoPrimary t d = update_rs_without_primary (record t { kind = topo.NoPrimary }) d
settled UpdateFromPrimary t d = update_rs_from_primary t d
settled UpdateWithoutPrimary t d = update_rs_without_primary t d
settled UpdateWithPrimaryFromMember t d = update_rs_with_primary_from_member t d
settled CheckIfHasPrimary t d = check_if_has_primary t
settled RemoveAndCheck t d = check_if_has_primary (without t d.host)

-- The topology after an event: the new description is put in, and then the table's cell does its part.
abbrev pub after : Topology → TopoEvent → Topology
after t event = let d = fresh t.servers event in settled (cell_of t.kind d.kind) (placed t d) d
