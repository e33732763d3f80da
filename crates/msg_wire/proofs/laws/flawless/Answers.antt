use Rattle.msg_wire.proofs.Whole.{flawless, flaw-framed}
use Rattle.msg_wire.proofs.laws.flawless.Goals as goal

pub returns : goal.returns
returns c = λ bytes. (flawless bytes, λ x. flaw-framed bytes x.0 x.1 x.2)
