-- The map that a table of shared descriptions stands for.
use Rattle.std.specs.Prelude.{List, map}
use Rattle.std.specs.FinMap as map
use Rattle.std.specs.Arc.{arc_value}
use Rattle.std.specs.declared.sync.Arc.{Arc}
use Rattle.host_name.specs.Addresses.{Address}
use Rattle.hello_reply.specs.declared.server_description.ServerDescription.{ServerDescription}
use Rattle.topo_rules.specs.Maps.{ServerMap}

-- The descriptions of the table, without the pointers that share them.
abbrev pub described : {Z : Type 0} → List (Arc ServerDescription Z) → List ServerDescription
described table = map (λ s. arc_value s) table

-- Each description beside its own host.
abbrev pub by_host : List ServerDescription → List (Address × ServerDescription)
by_host ds = map (λ d. (d.host, d)) ds

-- The map of the table: at each host the first description that names it.
abbrev pub seen : {Z : Type 0} → List (Arc ServerDescription Z) → ServerMap
seen table = map.from_entries (by_host (described table))
