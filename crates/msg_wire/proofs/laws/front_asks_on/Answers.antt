use Rattle.msg_wire.proofs.Partings.{messages-front}
use Rattle.msg_wire.proofs.laws.front_asks_on.Goals as goal

pub returns : goal.returns
returns c = messages-front
