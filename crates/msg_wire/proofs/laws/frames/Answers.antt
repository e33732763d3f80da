use Rattle.msg_wire.proofs.Framings.{Framed-frame}
use Rattle.msg_wire.proofs.laws.frames.Goals as goal

pub returns : goal.returns
returns c = Framed-frame
