use Rattle.std.proofs.Common.{[]}
use Rattle.desk_wire.proofs.MessageLemmas.{sends-from}
use Rattle.desk_wire.proofs.laws.sends_in_order.Goals as goal

pub returns : goal.returns
returns c = sends-from []
