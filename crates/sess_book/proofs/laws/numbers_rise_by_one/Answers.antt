use Rattle.sess_book.proofs.NumberLemmas.{drawn-at}
use Rattle.sess_book.proofs.laws.numbers_rise_by_one.Goals as goal

pub returns : goal.returns
returns c = drawn-at
