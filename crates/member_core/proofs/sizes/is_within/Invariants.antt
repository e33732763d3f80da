use Rattle.std.specs.Prelude.{◌≡◌, ◌+◌, ◌-◌, ◌^◌, length, min, sum_by, take}
use Rattle.member_core.specs.Sizes.{host_size}
use Rattle.member_core.proofs.sizes.is_within.Given as goal

abbrev pub invariant-loop-host : goal.invariant-loop-host
invariant-loop-host l = l.size ≡ min (length l.set + 64 + sum_by host_size (take l.host-index l.hosts)) (2 ^ 64 - 1)
