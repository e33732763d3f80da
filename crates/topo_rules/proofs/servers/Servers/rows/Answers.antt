use Rattle.std.proofs.Common.{subst}
use Rattle.topo_rules.specs.Maps.{StandAtHosts}
use Rattle.topo_rules.proofs.HostTables.{seen-at_hosts}
use Rattle.topo_rules.proofs.servers.Servers.rows.Goals as goal

pub returns-clause-hosts : goal.returns-clause-hosts
returns-clause-hosts c = subst StandAtHosts c.self.view_is (seen-at_hosts _)
