use Rattle.std.proofs.Common.{◌≡◌, map, take}
use Rattle.cmd_build.specs.Commands.{tag_field}
use Rattle.cmd_build.proofs.preference.tag_document.Given as goal

abbrev pub invariant-loop-tag : goal.invariant-loop-tag
invariant-loop-tag l = l.document.elements ≡ map tag_field (take l.tag-index l.tags)
