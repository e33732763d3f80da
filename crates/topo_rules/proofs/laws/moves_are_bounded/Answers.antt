use Rattle.topo_rules.proofs.BoundLemmas.{bounded}
use Rattle.topo_rules.proofs.laws.moves_are_bounded.Goals as goal

pub returns : goal.returns
returns c = bounded
