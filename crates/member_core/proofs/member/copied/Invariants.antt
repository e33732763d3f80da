use Rattle.std.proofs.Common.{◌≡◌, take}
use Rattle.member_core.proofs.member.copied.Given as goal

abbrev pub invariant-loop-host : goal.invariant-loop-host
invariant-loop-host l = l.rows ≡ take l.host-index l.hosts
