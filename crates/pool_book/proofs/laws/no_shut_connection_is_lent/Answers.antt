use Rattle.pool_book.proofs.GoneLemmas.{lends-never}
use Rattle.pool_book.proofs.laws.no_shut_connection_is_lent.Goals as goal

pub returns : goal.returns
returns c rules before moment reason between last conn l = lends-never rules before moment reason between last conn l
