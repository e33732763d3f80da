use Rattle.std.proofs.Common.{◌≡◌, ◌<◌, ◌+◌, ◌-◌, ◌^◌, min, length, drop, map}
use Rattle.bson_wire.specs.Spelled.{spelled_elements}
use Rattle.cmd_build.specs.Commands.{tag_field}
use Rattle.cmd_build.proofs.sizes.size_of_tags.Given as goal

abbrev pub invariant-loop-tag : goal.invariant-loop-tag
invariant-loop-tag l = record {
  counted : min (l.total + length (spelled_elements (map tag_field (drop l.tag-index l.tags)))) (2 ^ 64 - 1) ≡ min (length (spelled_elements (map tag_field l.tags))) (2 ^ 64 - 1);
  fits : l.total < 2 ^ 64;
}
