-- Which lists of hosts and acts make a hall, and the hall that they make.
-- own: a net in memory that plays a replica set.
use Rattle.std.specs.Prelude.{◌==◌, ℕ, Bool, not, List, [], ◌∷◌, ◌++◌, length, map, position, nat_lt, Option, None, Some, if◌then◌else◌}
use Rattle.std.specs.List.{list_any, range_with_len}
use Rattle.host_name.specs.Addresses.{Address, is_same_address}
use Rattle.member_hall.specs.declared.act.Planned.{Planned}
use Rattle.member_hall.specs.declared.fault.HallFault.{HallFault}
use Rattle.member_hall.specs.declared.fault.HallFault.TheVariants as fault
use Rattle.member_hall.specs.Acts.{host_of}
use Rattle.member_hall.specs.Halls.{HallState, PeerState}
use Rattle.member_hall.specs.Making.{peer_of}

-- The first place whose host stands before it too.
abbrev pub twice_from : List Address → List Address → Option ℕ
twice_from before [] = None
twice_from before (host ∷ hosts) = if list_any (is_same_address host) before then Some (length before) else twice_from (before ++ host ∷ []) hosts

abbrev pub twice_in : List Address → Option ℕ
twice_in hosts = twice_from [] hosts

-- The first act of a host that is not there.
abbrev pub is_stranger : ℕ → Planned → Bool
is_stranger many planned = not (nat_lt (host_of planned.act) many)

abbrev pub stranger_in : ℕ → List Planned → Option ℕ
stranger_in many acts = position (is_stranger many) acts

-- Why there is no hall of them, memory aside: no host, a host twice, an act of a stranger, in this order.
abbrev pub fault_by : Option ℕ → Option ℕ → Option HallFault
fault_by (Some host) act = Some (fault.Twice host)
fault_by None (Some place) = Some (fault.Act place)
fault_by None None = None

abbrev pub fault_in : List Address → List Planned → Option HallFault
fault_in hosts acts = if length hosts == 0 then Some fault.NoMember else fault_by (twice_in hosts) (stranger_in (length hosts) acts)

-- The hall of these members, to which nothing happened.
abbrev pub hall_with : List PeerState → List Planned → HallState
hall_with peers acts = record { peers = peers; last = 0; elections = 0; plan = acts; turn = 0; lines = []; unserved = None; events = []; faults = 0 }

abbrev pub new_hall : List ℕ → List Address → List Planned → HallState
new_hall set hosts acts = hall_with (map (peer_of set hosts) (range_with_len 0 (length hosts))) acts
