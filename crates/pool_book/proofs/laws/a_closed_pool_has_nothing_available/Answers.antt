use Rattle.pool_book.proofs.SoundLemmas.{Sound-trail}
use Rattle.pool_book.proofs.laws.a_closed_pool_has_nothing_available.Goals as goal

pub returns : goal.returns
returns c rules ts l closed = (Sound-trail rules ts l).shut closed
