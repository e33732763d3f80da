use Rattle.topo_rules.proofs.LawLemmas.{one_primary}
use Rattle.topo_rules.proofs.laws.at_most_one_primary.Goals as goal

pub returns : goal.returns
returns c = one_primary
