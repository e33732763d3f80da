use Rattle.std.proofs.Common.{◌≡◌, take}
use Rattle.topo_rules.specs.Seen.{described}
use Rattle.topo_rules.proofs.table.shared_table.Given as goal

abbrev pub invariant-loop-shared : goal.invariant-loop-shared
invariant-loop-shared l = described l.table.items ≡ described (take l.shared-index l.from)
