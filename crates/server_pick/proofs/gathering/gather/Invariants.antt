use Rattle.std.proofs.Common.{◌≡◌, filter, map, take}
use Rattle.std.specs.FinMap as table
use Rattle.server_pick.specs.Candidates.{candidate_of}
use Rattle.server_pick.specs.Sieves.{passes}
use Rattle.server_pick.proofs.gathering.gather.Given as goal

abbrev pub invariant-loop-place : goal.invariant-loop-place
invariant-loop-place g l =
    l.candidates.items ≡ map (candidate_of (g.L.Loads.load l.loads)) (filter (passes l.sieve) (take l.place (table.values l.topology.servers)))
