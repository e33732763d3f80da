use Rattle.write_retry.proofs.HistoryLemmas.{history-tells, sends-most, sends-once}
use Rattle.write_retry.proofs.laws.without_a_number_sent_once.Goals as goal

pub returns-clause-once : goal.returns-clause-once
returns-clause-once c write retryable es l none = sends-once _ _ none (history-tells write retryable es l).sends

pub returns-clause-twice : goal.returns-clause-twice
returns-clause-twice c write retryable es l = sends-most _ _ (history-tells write retryable es l).sends
