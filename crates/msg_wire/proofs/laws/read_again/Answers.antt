use Rattle.msg_wire.proofs.Whole.{read_again}
use Rattle.msg_wire.proofs.laws.read_again.Goals as goal

pub returns : goal.returns
returns c = read_again
