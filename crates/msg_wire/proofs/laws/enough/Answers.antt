use Rattle.msg_wire.proofs.Asked.{enough}
use Rattle.msg_wire.proofs.laws.enough.Goals as goal

pub returns : goal.returns
returns c = enough
