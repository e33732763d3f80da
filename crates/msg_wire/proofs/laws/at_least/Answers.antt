use Rattle.msg_wire.proofs.Whole.{length-Framed}
use Rattle.msg_wire.proofs.laws.at_least.Goals as goal

pub returns : goal.returns
returns c = length-Framed
