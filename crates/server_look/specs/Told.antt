-- What a look says of a selection (own: the refinement).
use Rattle.std.specs.Prelude.{◌≡◌, Bool, true, false, List, Some, IsSome}
use Rattle.host_name.specs.Addresses.{Address}
use Rattle.server_pick.specs.declared.picked.Picked.{Picked}
use Rattle.server_pick.specs.declared.picked.Picked.TheVariants as picked
use Rattle.desk_trail.specs.declared.entry.LookedHow.{LookedHow}
use Rattle.desk_trail.specs.declared.entry.LookedHow.TheVariants as looked
use Rattle.desk_trail.specs.States.{ServerState, number_from}

-- By the numbers of hosts, and by whether the deadline is over.
abbrev pub Says : List ServerState → Picked → Bool → LookedHow → Type 0
Says servers (picked.Chosen address) late (looked.Chosen host) = number_from 0 servers address ≡ Some host
Says servers (picked.Incompatible address min max) late (looked.Incompatible host) = number_from 0 servers address ≡ Some host
Says servers picked.NoneFits late looked.NoneFits = late ≡ false
Says servers picked.NoneFits late looked.Failed = late ≡ true
Says servers p late l = ⊥

-- A server stands in the topology with that address.
abbrev pub HasNumber : List ServerState → Address → Type 0
HasNumber servers address = IsSome (number_from 0 servers address)

-- So is each server that it names.
abbrev pub TellsOf : (Address → Type 0) → Picked → Type 0
TellsOf Q (picked.Chosen address) = Q address
TellsOf Q (picked.Incompatible address min max) = Q address
TellsOf Q picked.NoneFits = Unit {0}
TellsOf Q picked.Memory = ⊥
