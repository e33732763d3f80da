use Rattle.topo_rules.proofs.LawLemmas.{listed_stand}
use Rattle.topo_rules.proofs.laws.listed_hosts_stand.Goals as goal

pub returns : goal.returns
returns c = listed_stand
