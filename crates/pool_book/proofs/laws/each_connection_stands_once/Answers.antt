use Rattle.pool_book.proofs.SoundLemmas.{Sound-trail}
use Rattle.pool_book.proofs.laws.each_connection_stands_once.Goals as goal

pub returns : goal.returns
returns c rules ts l conn = (Sound-trail rules ts l).once conn
