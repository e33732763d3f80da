use Rattle.msg_wire.proofs.Asked.{still_short}
use Rattle.msg_wire.proofs.laws.still_short.Goals as goal

pub returns : goal.returns
returns c = still_short
