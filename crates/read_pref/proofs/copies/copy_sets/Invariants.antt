use Rattle.std.proofs.Common.{◌≡◌, take}
use Rattle.read_pref.proofs.copies.copy_sets.Given as goal

abbrev pub invariant-loop-tags : goal.invariant-loop-tags
invariant-loop-tags l = l.copies ≡ take l.tags-index l.sets
