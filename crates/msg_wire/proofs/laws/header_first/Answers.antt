use Rattle.msg_wire.proofs.Asked.{header_first}
use Rattle.msg_wire.proofs.laws.header_first.Goals as goal

pub returns : goal.returns
returns c = header_first
