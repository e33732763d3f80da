use Rattle.msg_wire.proofs.Asked.{asks}
use Rattle.msg_wire.proofs.laws.short.Goals as goal

pub returns : goal.returns
returns c = asks
