use Rattle.std.proofs.Common.{◌≡◌, map, take}
use Rattle.cmd_build.specs.Commands.{tag_value}
use Rattle.cmd_build.proofs.preference.tag_sets.Given as goal

abbrev pub invariant-loop-tags : goal.invariant-loop-tags
invariant-loop-tags l = l.items ≡ map tag_value (take l.tags-index l.sets)
