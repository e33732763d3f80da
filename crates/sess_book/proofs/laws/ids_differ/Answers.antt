use Rattle.sess_book.proofs.LawLemmas.{good-history}
use Rattle.sess_book.proofs.laws.ids_differ.Goals as goal

pub returns : goal.returns
returns c ts l = (good-history ts l).differ
