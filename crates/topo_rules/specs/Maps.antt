-- Finite maps from hosts to descriptions (SDAM, TopologyDescription: servers).
use Rattle.std.specs.Prelude.{◌≡◌, ℕ, Option, Some, Bool, if◌then◌else◌, List, ◌++◌, map}
use Rattle.std.specs.List.{list_any}
use Rattle.std.specs.List.Sorted.{IsStrictlySortedBy}
use Rattle.std.specs.Option.{option_and_then, unwrap_or}
use Rattle.std.specs.FinMap as map
use Rattle.host_name.specs.Addresses.{Address, address_cmp, is_same_address}
use Rattle.hello_reply.specs.declared.server_description.ServerDescription.{ServerDescription}
use Rattle.hello_reply.specs.Descriptions.{unknown as default_unknown_of}
use Rattle.topo_rules.specs.Kinds.{is_primary}

-- A map from hosts to descriptions: its entries stand in the order of hosts.
abbrev pub ServerMap : Type 0
ServerMap = map.FinMap address_cmp ServerDescription

-- What stands at a host is that host's description (SDAM, ServerDescription: address).
pub record StandAtHosts (m : ServerMap) : Type 0 where
  pub at : (x : Address) (d : ServerDescription) → map.get m x ≡ Some d → d.host ≡ x

-- The hosts of the map stand in their order, each below all that come after it: by the bytes of their names, and then by
-- their ports (own: the standard has no order).
pub record StandInOrder (m : ServerMap) : Type 0 where
  pub rise : IsStrictlySortedBy address_cmp (map.keys m)

-- The map whose hosts are exactly those listed, each with what f says of it.
abbrev pub tabulate : List Address → (Address → ServerDescription) → ServerMap
tabulate hosts f = map.from_entries (map (λ x. (x, f x)) hosts)

-- What the map says of a host; a default Unknown where it has none.
abbrev pub known_or_new : ServerMap → Address → ServerDescription
known_or_new m x = unwrap_or (map.get m x) (default_unknown_of x)

-- The mean that the map keeps for a host, none where it has none.
abbrev pub kept_mean : ServerMap → Address → Option ℕ
kept_mean m host = option_and_then (λ d. d.mean) (map.get m host)

-- The map with a default Unknown for each listed host that is not in it (SDAM, updateRSWithoutPrimary: add new servers).
abbrev pub joined : ServerMap → List Address → ServerMap
joined m hosts = tabulate (map.keys m ++ hosts) (known_or_new m)

-- What stands at a host that the primary d lists: d itself at its own host; a default Unknown where another primary stood,
-- and at a host that is not in the map; at the rest what stood (SDAM, updateRSFromPrimary).
abbrev pub beside_primary : ServerMap → ServerDescription → Address → ServerDescription
beside_primary m d x =
    if is_same_address x d.host then d
    else (let old = known_or_new m x in if is_primary old then default_unknown_of x else old)

-- The servers behind the primary d: their hosts are exactly those that d lists (SDAM, updateRSFromPrimary: remove servers that
-- the primary does not list, add those that it does).
abbrev pub servers_of_primary : ServerMap → ServerDescription → ServerMap
servers_of_primary m d = tabulate d.listed (beside_primary m d)

-- Some server of the map is a primary.
abbrev pub has_primary : ServerMap → Bool
has_primary m = list_any is_primary (map.values m)
