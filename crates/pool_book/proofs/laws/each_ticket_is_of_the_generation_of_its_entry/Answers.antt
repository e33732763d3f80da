use Rattle.pool_book.proofs.EnteredLemmas.{EnteredIn-trail}
use Rattle.pool_book.proofs.laws.each_ticket_is_of_the_generation_of_its_entry.Goals as goal

pub returns : goal.returns
returns c rules ts l = (EnteredIn-trail rules ts l).waiting
