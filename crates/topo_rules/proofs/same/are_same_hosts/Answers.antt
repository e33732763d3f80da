use Rattle.std.proofs.Common.{sym, ◌∙◌}
use Rattle.topo_rules.proofs.Lists.{same_hosts, hosts_same}
use Rattle.topo_rules.proofs.same.are_same_hosts.Goals as goal

pub returns : goal.returns
returns c =
    (λ h. same_hosts c.args.a.now c.args.b.now (sym c.eq.ensures ∙ h), λ e. c.eq.ensures ∙ hosts_same c.args.a.now c.args.b.now e)
