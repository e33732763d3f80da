use Rattle.std.proofs.Common.{◌≡◌, length, take}
use Rattle.topo_rules.proofs.same.are_same_tags.Given as goal

abbrev pub invariant-loop-place : goal.invariant-loop-place
invariant-loop-place l = (length l.a ≡ length l.b) × (take l.place l.a ≡ take l.place l.b)
