use Rattle.std.proofs.Common.{arith}
use Rattle.cmd_build.proofs.SizeLemmas.{length-concern}
use Rattle.cmd_build.proofs.sizes.size_of_concern.Goals as goal

pub returns-then-is_write : goal.returns-then-is_write
returns-then-is_write c = omega (arith, length-concern c.args.command.now.act c.if-is_write.ensures.writes)
