use Rattle.topo_book.proofs.MeanLemmas.{mean_of_samples}
use Rattle.topo_book.proofs.laws.mean_is_of_samples.Goals as goal

pub returns : goal.returns
returns c = mean_of_samples
