-- Which hosts have a number.
use Rattle.std.specs.Prelude.{IsSome}
use Rattle.std.specs.FinMap as map
use Rattle.host_name.specs.Addresses.{Address}
use Rattle.desk_trail.specs.States.{ClientState, number_of}

-- Each host of the topology has a number: a server that did not leave stands with its address (SDAM, TopologyDescription: servers).
abbrev pub AreNumbered : ClientState → Type 0
AreNumbered w = (address : Address) → IsSome (map.get w.topology.servers address) → IsSome (number_of w address)
