use Rattle.std.proofs.Common.{◌≡◌, ◌<◌, ◌+◌, ◌-◌, ◌^◌, min, length, drop, map}
use Rattle.bson_wire.specs.Spelled.{numbered, payload}
use Rattle.cmd_build.specs.Commands.{tag_value}
use Rattle.cmd_build.proofs.sizes.size_of_items.Given as goal

abbrev pub invariant-loop-place : goal.invariant-loop-place
invariant-loop-place l = record {
  counted : min (l.total + length (numbered l.place (map payload (map tag_value (drop l.place l.sets))))) (2 ^ 64 - 1) ≡ min (length (numbered 0 (map payload (map tag_value l.sets)))) (2 ^ 64 - 1);
  fits : l.total < 2 ^ 64;
}
