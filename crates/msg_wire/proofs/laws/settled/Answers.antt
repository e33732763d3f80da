use Rattle.msg_wire.proofs.Asked.{settled}
use Rattle.msg_wire.proofs.laws.settled.Goals as goal

pub returns : goal.returns
returns c = settled
