use Rattle.topo_rules.proofs.OriginLemmas.{stands_behind}
use Rattle.topo_rules.proofs.laws.nothing_else_stands.Goals as goal

pub returns : goal.returns
returns c = stands_behind
