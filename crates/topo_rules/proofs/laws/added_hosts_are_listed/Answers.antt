use Rattle.topo_rules.proofs.BoundLemmas.{added_listed}
use Rattle.topo_rules.proofs.laws.added_hosts_are_listed.Goals as goal

pub returns : goal.returns
returns c = added_listed
