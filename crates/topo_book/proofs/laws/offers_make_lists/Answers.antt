use Rattle.topo_book.proofs.OfferLemmas.{answers-push, accepted-push}
use Rattle.topo_book.proofs.laws.offers_make_lists.Goals as goal

pub returns-clause-one_more_answer : goal.returns-clause-one_more_answer
returns-clause-one_more_answer c = answers-push

pub returns-clause-one_more_event : goal.returns-clause-one_more_event
returns-clause-one_more_event c = accepted-push
