use Rattle.std.proofs.Common.{◌≡◌, take}
use Rattle.topo_rules.specs.Changes.{plain}
use Rattle.topo_rules.proofs.servers.Servers.is_same.Given as goal

abbrev pub invariant-loop-place : goal.invariant-loop-place
invariant-loop-place l = take l.place (plain l.self) ≡ take l.place (plain l.other)
