use Rattle.write_retry.proofs.HistoryLemmas.{history-tells}
use Rattle.write_retry.proofs.laws.a_server_is_selected_where_one_more_may_be.Goals as goal

pub returns : goal.returns
returns c write retryable es l = (history-tells write retryable es l).selected
