use Rattle.std.proofs.Common.{IfOk, sym, subst}
use Rattle.std.specs.Arc.{arc_value}
use Rattle.topo_rules.specs.declared.kind.TopoKind.TheVariants as topo
use Rattle.topo_rules.specs.Outcomes.{IsOutcome}
use Rattle.topo_rules.specs.Rules.{placed, settled}
use Rattle.topo_rules.proofs.OutcomeLemmas.{from_primary-kind}
use Rattle.topo_rules.proofs.topology.Topology.settle.Goals as goal

pub returns-in-BecomeWithPrimary : goal.returns-in-BecomeWithPrimary
returns-in-BecomeWithPrimary c =
    let d = arc_value c.args.description.now in
    subst (λ k. IfOk c.update_rs_from_primary.result (IsOutcome c.args.self.now d.host (settled k (placed c.args.self.now d) d))) (sym c.in-BecomeWithPrimary.is)
    (subst (λ t. IfOk c.update_rs_from_primary.result (IsOutcome c.args.self.now d.host t)) (from_primary-kind (placed c.args.self.now d) d topo.WithPrimary) c.update_rs_from_primary.ensures)
