use Rattle.pool_book.proofs.CountLemmas.{counted-trail}
use Rattle.pool_book.proofs.laws.counts_are_no_more_than_entries.Goals as goal

pub returns : goal.returns
returns c = counted-trail
