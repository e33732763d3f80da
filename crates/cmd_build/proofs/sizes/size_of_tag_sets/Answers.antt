use Rattle.std.proofs.Common.{length, arith}
use Rattle.cmd_build.proofs.SizeLemmas.{length-tag_sets_field, not_zero}
use Rattle.cmd_build.proofs.sizes.size_of_tag_sets.Goals as goal

pub returns : goal.returns
returns c = omega (arith, length-tag_sets_field c.args.sets.now (not_zero (length c.args.sets.now) c.if-is_empty.ensures))
