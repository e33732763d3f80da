use Rattle.msg_wire.proofs.Partings.{messages-begin}
use Rattle.msg_wire.proofs.laws.begins.Goals as goal

pub returns : goal.returns
returns c = messages-begin
