use Rattle.std.proofs.Common.{◌≡◌, map, take}
use Rattle.hello_reply.specs.Descriptions.{unknown as default_unknown_of}
use Rattle.topo_rules.specs.Seen.{described}
use Rattle.topo_rules.proofs.servers.Servers.of_hosts.Given as goal

abbrev pub invariant-loop-host : goal.invariant-loop-host
invariant-loop-host l = described l.table.items ≡ map default_unknown_of (take l.host-index l.hosts)
