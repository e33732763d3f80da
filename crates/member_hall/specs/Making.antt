-- A member as a plan finds it.
-- own: a member that is played in memory.
use Rattle.std.specs.Prelude.{ℕ, List, [], None, false, slice_get}
use Rattle.std.specs.Option.{option_map_or}
use Rattle.host_name.specs.Addresses.{Address, address_text}
use Rattle.member_core.specs.Members.{new_member}
use Rattle.member_hall.specs.Halls.{PeerState}

-- The member at a place of the hosts, to which nothing happened.
abbrev pub peer_of : List ℕ → List Address → ℕ → PeerState
peer_of set hosts place = record {
  address = option_map_or address_text (slice_get hosts place) [];
  member = new_member set hosts place;
  dead = false;
  split = None;
  rules = [];
  holds = [];
}
