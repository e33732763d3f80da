use Rattle.pool_book.proofs.SpentLemmas.{misses-never}
use Rattle.pool_book.proofs.laws.each_ticket_that_waited_at_a_clear_is_refused_as_cleared_or_closed.Goals as goal

pub returns : goal.returns
returns c rules before moment between last number l a = misses-never rules before moment between last number l a
