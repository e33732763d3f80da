use Rattle.msg_wire.proofs.Partings.{Begins-more, messages-more}
use Rattle.msg_wire.proofs.laws.stays.Goals as goal

pub returns-clause-begins : goal.returns-clause-begins
returns-clause-begins c = λ bytes more some rest begins. Begins-more bytes some rest more begins

pub returns-clause-messages : goal.returns-clause-messages
returns-clause-messages c = λ bytes more. (messages-more bytes more).0

pub returns-clause-behind : goal.returns-clause-behind
returns-clause-behind c = λ bytes more. (messages-more bytes more).1
