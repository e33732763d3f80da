use Rattle.std.proofs.Common.{arith}
use Rattle.cmd_build.proofs.SizeLemmas.{length-modification, length-removal}
use Rattle.cmd_build.proofs.sizes.size_of_modification.Goals as goal

pub returns-in-Some : goal.returns-in-Some
returns-in-Some c = rw (c.in-Some.is) (omega (arith, length-modification c.in-Some.change))

pub returns-in-None : goal.returns-in-None
returns-in-None c = rw (c.in-None.is) (omega (arith, length-removal))
