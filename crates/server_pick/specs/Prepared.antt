-- What is prepared before a picker is asked.
use Rattle.std.specs.Prelude.{◌≡◌, ◌≤◌, ℕ, List, [], length, string_bytes, string_capacity}
use Rattle.std.specs.List.{All}
use Rattle.std.specs.Option.{option_map}
use Rattle.host_name.specs.Addresses.{Address}
use Rattle.hello_reply.specs.declared.server_description.ServerDescription.{ServerDescription}
use Rattle.topo_rules.specs.Maps.{ServerMap}
use Rattle.topo_rules.specs.Readings.{misfit_of}
use Rattle.server_pick.specs.Picks.{mean_of}
use Rattle.server_pick.specs.declared.candidate.Candidate.{Candidate}
use Rattle.server_pick.specs.declared.picked.Picked.{Picked}
use Rattle.server_pick.specs.declared.picked.Picked.TheVariants.{Incompatible}
use Rattle.server_pick.specs.declared.preparing.Room.{Room}

-- What is told of a misfit.
abbrev pub incompatible : ServerDescription → Picked
incompatible d = Incompatible d.host d.min_wire d.max_wire

-- The candidate says what the topology and the loads say of its host.
pub record IsTrueTo (m : ServerMap) (load : Address → ℕ) (c : Candidate) : Type 0 where
  pub mean : mean_of m c.host ≡ c.mean
  pub in_flight : load c.host ≡ c.in_flight

-- The name of the candidate's host is no longer than so many bytes.
abbrev pub HasRoomAt : ℕ → Candidate → Type 0
HasRoomAt most c = length c.host.name ≤ most

-- There is room for every host, and for one more copy of any of them, and what is told of a misfit stands ready.
pub record IsRoomFor (m : ServerMap) (cs : List Candidate) (room : Room) : Type 0 where
  pub hosts_empty : room.hosts.items ≡ []
  pub hosts_room : length cs ≤ room.hosts.room
  pub name_empty : string_bytes room.name ≡ []
  pub name_room : All (HasRoomAt (string_capacity room.name)) cs
  pub misfit : room.misfit ≡ option_map incompatible (misfit_of m)
