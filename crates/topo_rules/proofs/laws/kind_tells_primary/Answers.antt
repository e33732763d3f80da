use Rattle.topo_rules.proofs.LawLemmas.{kind_tells}
use Rattle.topo_rules.proofs.laws.kind_tells_primary.Goals as goal

pub returns : goal.returns
returns c = kind_tells
