use Rattle.msg_wire.proofs.Whole.{no_prefix}
use Rattle.msg_wire.proofs.laws.no_prefix.Goals as goal

pub returns : goal.returns
returns c = no_prefix
