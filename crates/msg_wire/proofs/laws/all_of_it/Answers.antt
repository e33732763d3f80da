use Rattle.msg_wire.proofs.Asked.{all_of_it, not_short}
use Rattle.msg_wire.proofs.laws.all_of_it.Goals as goal

pub returns-clause-all : goal.returns-clause-all
returns-clause-all c = λ bytes n message whole. all_of_it bytes whole n message

pub returns-clause-settled : goal.returns-clause-settled
returns-clause-settled c = λ bytes n whole. not_short bytes whole n
