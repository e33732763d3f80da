use Rattle.std.proofs.Common.{◌≡◌, filter, not, take}
use Rattle.host_name.specs.Addresses.{is_same_address}
use Rattle.topo_rules.specs.Seen.{described}
use Rattle.topo_rules.proofs.servers.Servers.without.Given as goal

abbrev pub invariant-loop-shared : goal.invariant-loop-shared
invariant-loop-shared l = described l.table.items ≡ filter (λ d. not (is_same_address d.host l.host)) (described (take l.shared-index l.rows))
