use Rattle.std.proofs.Common.{◌≡◌, take, drop}
use Rattle.member_hall.specs.Plans.{twice_from, twice_in}
use Rattle.member_hall.proofs.making.first_twice.Given as goal

abbrev pub invariant-loop-place : goal.invariant-loop-place
invariant-loop-place l = twice_from (take l.place l.hosts) (drop l.place l.hosts) ≡ twice_in l.hosts
