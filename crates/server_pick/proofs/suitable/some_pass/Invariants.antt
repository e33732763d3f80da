use Rattle.std.proofs.Common.{◌≡◌, drop}
use Rattle.std.specs.FinMap as map
use Rattle.std.specs.List.{list_any}
use Rattle.server_pick.specs.Sieves.{passes}
use Rattle.server_pick.proofs.suitable.some_pass.Given as goal

abbrev pub invariant-loop-place : goal.invariant-loop-place
invariant-loop-place l =
    list_any (passes l.sieve) (drop l.place (map.values l.topology.servers)) ≡ list_any (passes l.sieve) (map.values l.topology.servers)
