use Rattle.write_retry.proofs.HistoryLemmas.{history-tells, selects-most, selects-second}
use Rattle.write_retry.proofs.laws.a_second_server_is_selected_to_repeat.Goals as goal

pub returns-clause-second : goal.returns-clause-second
returns-clause-second c write retryable es l = selects-second _ _ (history-tells write retryable es l).selects

pub returns-clause-third : goal.returns-clause-third
returns-clause-third c write retryable es l = selects-most _ _ (history-tells write retryable es l).selects

pub returns-clause-attempts : goal.returns-clause-attempts
returns-clause-attempts c write retryable es l = (history-tells write retryable es l).ends
