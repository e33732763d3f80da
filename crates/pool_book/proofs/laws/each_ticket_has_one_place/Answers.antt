use Rattle.pool_book.proofs.SoundLemmas.{Sound-trail}
use Rattle.pool_book.proofs.laws.each_ticket_has_one_place.Goals as goal

pub returns-clause-once : goal.returns-clause-once
returns-clause-once c rules ts l number = (Sound-trail rules ts l).one_place number

pub returns-clause-current : goal.returns-clause-current
returns-clause-current c rules ts l = (Sound-trail rules ts l).current
