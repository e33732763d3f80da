use Rattle.cmd_build.proofs.DepthLemmas.{depth_of-command_document}
use Rattle.cmd_build.proofs.laws.levels.Goals as goal

pub returns : goal.returns
returns c = depth_of-command_document
