use Rattle.topo_rules.proofs.BoundLemmas.{removed_may}
use Rattle.topo_rules.proofs.laws.removed_hosts_may_be.Goals as goal

pub returns : goal.returns
returns c = removed_may
