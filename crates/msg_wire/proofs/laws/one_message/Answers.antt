use Rattle.msg_wire.proofs.Whole.{one_message}
use Rattle.msg_wire.proofs.laws.one_message.Goals as goal

pub returns : goal.returns
returns c = one_message
