-- What an answer of the topology's book names, for the private functions that read it.
use Rattle.std.specs.Prelude.{List, []}
use Rattle.host_name.specs.Addresses.{Address}
use Rattle.topo_book.specs.declared.taken.Taken.{Taken}
use Rattle.topo_book.specs.declared.taken.Taken.TheVariants as answer

-- The hosts that an accepted event adds, and those that it removes; another adds and removes none.
abbrev pub added_by : Taken → List Address
added_by (answer.Accepted change) = change.added
added_by taken = []

abbrev pub removed_by : Taken → List Address
removed_by (answer.Accepted change) = change.removed
removed_by taken = []
