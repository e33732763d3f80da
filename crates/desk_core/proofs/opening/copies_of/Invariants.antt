use Rattle.std.proofs.Common.{◌≡◌, take}
use Rattle.desk_core.proofs.opening.copies_of.Given as goal

abbrev pub invariant-loop-host : goal.invariant-loop-host
invariant-loop-host l = l.copies ≡ take l.host-index l.hosts
