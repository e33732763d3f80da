use Rattle.std.proofs.Common.{Some, sym, ap, ◌∙◌}
use Rattle.topo_rules.proofs.servers.Servers.get.Goals as goal

pub returns-in-Some-clause-host : goal.returns-in-Some-clause-host
returns-in-Some-clause-host c = c.find.ensures.hosts.at c.args.host.now c.deref.result.now (sym c.in-Some.ensures.value ∙ ap Some (sym c.deref.ensures))
