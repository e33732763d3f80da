use Rattle.std.proofs.Common.{◌≡◌, take, filter, not, is_some}
use Rattle.std.specs.FinMap as map
use Rattle.topo_rules.proofs.servers.Servers.hosts_beyond.Given as goal

abbrev pub invariant-loop-place : goal.invariant-loop-place
invariant-loop-place l = l.hosts ≡ filter (λ x. not (is_some (map.get l.other x))) (take l.place (map.keys l.self))
