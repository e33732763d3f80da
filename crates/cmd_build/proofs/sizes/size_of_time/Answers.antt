use Rattle.std.proofs.Common.{arith}
use Rattle.cmd_build.proofs.SizeLemmas.{length-time}
use Rattle.cmd_build.proofs.sizes.size_of_time.Goals as goal

pub returns-in-Some : goal.returns-in-Some
returns-in-Some c = rw (c.in-Some.is) (omega (arith, length-time c.in-Some.time.now))
