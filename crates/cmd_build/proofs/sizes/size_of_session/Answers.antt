use Rattle.std.proofs.Common.{arith}
use Rattle.cmd_build.proofs.SizeLemmas.{length-session}
use Rattle.cmd_build.proofs.sizes.size_of_session.Goals as goal

pub returns-in-Some : goal.returns-in-Some
returns-in-Some c = rw (c.in-Some.is) (omega (arith, length-session c.in-Some.id))
