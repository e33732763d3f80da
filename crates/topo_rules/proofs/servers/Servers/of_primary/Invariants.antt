use Rattle.std.proofs.Common.{◌≡◌, map, take}
use Rattle.topo_rules.specs.Maps.{beside_primary}
use Rattle.topo_rules.specs.Seen.{described}
use Rattle.topo_rules.proofs.servers.Servers.of_primary.Given as goal

abbrev pub invariant-loop-host : goal.invariant-loop-host
invariant-loop-host l = described l.table.items ≡ map (beside_primary l.self l.primary.value) (take l.host-index l.host-items)
