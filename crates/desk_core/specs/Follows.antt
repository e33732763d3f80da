-- What must follow an event that was offered, as the desk writes it.
use Rattle.std.specs.Prelude.{◌≡◌, ℕ, ◌+◌, ◌*◌, false, List, [], ◌∷◌, ◌++◌, Option, None, Some, filter_map, length, map}
use Rattle.std.specs.List.{IsDistinct, list_any}
use Rattle.std.specs.Option.{option_and_then}
use Rattle.host_name.specs.Addresses.{Address, is_same_address}
use Rattle.topo_rules.specs.declared.change.Change.{Change}
use Rattle.topo_rules.specs.declared.event.TopoEvent.{TopoEvent}
use Rattle.desk_trail.specs.declared.entry.OfferedHow.{OfferedHow}
use Rattle.desk_trail.specs.Checks.{asked}
use Rattle.desk_trail.specs.Facts as fact
use Rattle.desk_trail.specs.Owed.{IsOwed, Owed}
use Rattle.desk_trail.specs.Owed as owed
use Rattle.desk_trail.specs.States.{ClientState, ServerState, changed, number_of}
use Rattle.desk_trail.specs.Topologies.{cleared, readied}

-- That event is what must be offered next.
abbrev pub IsToOffer : Owed → TopoEvent → Type 0
IsToOffer first event = (place : ℕ) (taken : OfferedHow) → IsOwed first (fact.Offered place event taken)

-- What a change of the topology owes, read off the servers.
abbrev pub owed_by : ClientState → Change → List Owed
owed_by w c =
    map (λ address. owed.Named address) c.added
    ++ (map (λ host. owed.Dropped host) (filter_map (number_of w) c.removed)
    ++ (readied w (option_and_then (number_of w) c.ready)
    ++ cleared (option_and_then (number_of w) c.clear)))

-- How many entries it takes, the closings of pools aside.
abbrev pub entries_for : Change → ℕ
entries_for c = 2 + length c.removed + 2 * length c.added

-- The address is none of these.
abbrev pub IsNone : Address → List Address → Type 0
IsNone a hosts = list_any (λ h. is_same_address h a) hosts ≡ false

abbrev pub IsNoneOf : Option Address → List Address → Type 0
IsNoneOf None hosts = Unit {0}
IsNoneOf (Some a) hosts = IsNone a hosts

abbrev pub AreNone : List Address → List Address → Type 0
AreNone [] hosts = Unit {0}
AreNone (x ∷ xs) hosts = IsNone x hosts × AreNone xs hosts

-- The hosts that were added, those that were removed, and those whose pools move, are others each.
pub record AreApart (c : Change) : Type 0 where
  pub removed : IsDistinct is_same_address c.removed
  pub kept : AreNone c.removed c.added
  pub ready_stays : IsNoneOf c.ready c.added
  pub ready_is_left : IsNoneOf c.ready c.removed
  pub clear_stays : IsNoneOf c.clear c.added
  pub clear_is_left : IsNoneOf c.clear c.removed

-- The servers once a check of the one of that number was asked for, where there is one (SDAM, Error handling: request an immediate check).
abbrev pub asked_in : ℕ → Option ℕ → List ServerState → List ServerState
asked_in moment None servers = servers
asked_in moment (Some host) servers = changed servers host (asked moment)
