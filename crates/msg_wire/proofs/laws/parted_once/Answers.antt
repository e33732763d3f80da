use Rattle.msg_wire.proofs.Partings.{parted, parted-once}
use Rattle.msg_wire.proofs.laws.parted_once.Goals as goal

pub returns-clause-is : goal.returns-clause-is
returns-clause-is c = parted

pub returns-clause-once : goal.returns-clause-once
returns-clause-once c = parted-once
