use Rattle.write_retry.proofs.HistoryLemmas.{history-tells}
use Rattle.write_retry.proofs.laws.answers_are_verdicts.Goals as goal

pub returns : goal.returns
returns c write retryable es l = (history-tells write retryable es l).answer
