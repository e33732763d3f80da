use Rattle.pool_book.proofs.LentLemmas.{lent_free}
use Rattle.pool_book.proofs.laws.each_lent_connection_was_free.Goals as goal

pub returns : goal.returns
returns c rules ts moment number conn l = lent_free rules ts moment number conn l
