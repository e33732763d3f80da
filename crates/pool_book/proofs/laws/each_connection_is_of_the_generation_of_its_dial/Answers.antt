use Rattle.pool_book.proofs.LentLemmas.{BornIn-trail}
use Rattle.pool_book.proofs.laws.each_connection_is_of_the_generation_of_its_dial.Goals as goal

pub returns-clause-pending : goal.returns-clause-pending
returns-clause-pending c rules ts l = (BornIn-trail rules ts l).pending

pub returns-clause-lent : goal.returns-clause-lent
returns-clause-lent c rules ts l = (BornIn-trail rules ts l).lent

pub returns-clause-available : goal.returns-clause-available
returns-clause-available c rules ts l = (BornIn-trail rules ts l).available
