use Rattle.std.proofs.Common.{[]}
use Rattle.desk_wire.proofs.MessageLemmas.{pulls-all, pulls-few, pulls-from}
use Rattle.desk_wire.proofs.laws.pulls_in_order.Goals as goal

pub returns-clause-begins : goal.returns-clause-begins
returns-clause-begins c = pulls-from []

pub returns-clause-all : goal.returns-clause-all
returns-clause-all c = pulls-all

pub returns-clause-wanting : goal.returns-clause-wanting
returns-clause-wanting c = pulls-few
