use Rattle.std.proofs.Common.{sym, ap, subst, ◌∙◌}
use Rattle.topo_rules.specs.Changes.{AlikeBeside}
use Rattle.topo_rules.specs.declared.topology.Topology.{Topology}
use Rattle.topo_rules.specs.Rules.{after}
use Rattle.topo_rules.proofs.AlikeLemmas.{after-alike}
use Rattle.topo_rules.proofs.topology.Topology.apply.Goals as goal

pub moves-requires-clause-alike : goal.moves-requires-clause-alike
moves-requires-clause-alike c =
    subst (λ n. AlikeBeside c.in_ok-host.host c.args.self.now.servers n) (sym (ap (λ (u : Topology). u.servers) c.in_ok-outcome.ensures.makes))
    (subst (λ h. AlikeBeside h c.args.self.now.servers (after c.args.self.now c.args.event.now).servers) (sym (c.in_ok-host.ensures ∙ c.host.ensures)) (after-alike c.args.self.now c.args.event.now))
