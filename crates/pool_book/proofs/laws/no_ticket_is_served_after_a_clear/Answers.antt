use Rattle.pool_book.proofs.SpentLemmas.{serves-never}
use Rattle.pool_book.proofs.laws.no_ticket_is_served_after_a_clear.Goals as goal

pub returns : goal.returns
returns c rules before moment between last number l a = serves-never rules before moment between last number l a
