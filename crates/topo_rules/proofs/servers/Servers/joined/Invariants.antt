use Rattle.std.proofs.Common.{◌≡◌, ◌++◌, map, take}
use Rattle.std.specs.FinMap as map
use Rattle.topo_rules.specs.Maps.{known_or_new}
use Rattle.topo_rules.specs.Seen.{described}
use Rattle.topo_rules.proofs.servers.Servers.joined.Given as goal

abbrev pub invariant-loop-host : goal.invariant-loop-host
invariant-loop-host l = described l.table.items ≡ map.values l.self ++ map (known_or_new l.self) (take l.host-index l.hosts)
