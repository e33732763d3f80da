use Rattle.std.proofs.Common.{◌++◌, ◌∷◌, [], sym, ap, ◌∙◌, arith, map, take, take_all}
use Rattle.std.specs.Arc.{arc_value}
use Rattle.hello_reply.specs.declared.server_description.ServerDescription.{ServerDescription}
use Rattle.topo_rules.specs.Maps.{beside_primary, tabulate}
use Rattle.topo_rules.proofs.Tabulate.{map_more, seen-tabulate, beside-host}
use Rattle.topo_rules.proofs.servers.Servers.of_primary.Goals as goal

pub loop-host-preserved : goal.loop-host-preserved
loop-host-preserved c =
    c.in_ok-append.ensures
    ∙ ap (λ ds. ds ++ arc_value c.in_ok-description.description ∷ []) c.loop-host.invariant
    ∙ ap (λ d. map (beside_primary c.args.self.now (arc_value c.args.primary.now)) (take c.loop-host.host-index c.as_slice-host-items.result.now) ++ d ∷ []) c.in_ok-description.ensures
    ∙ sym (map_more (beside_primary c.args.self.now (arc_value c.args.primary.now)) c.as_slice-host-items.result.now c.loop-host.host-index c.host-item.result c.loop-host-test.true c.host-item.is)

pub returns : goal.returns
returns c =
    c.in_ok-servers.ensures
    ∙ seen-tabulate (beside_primary c.args.self.now (arc_value c.args.primary.now)) (beside-host c.args.self.now (arc_value c.args.primary.now) c.len.ensures.hosts) c.loop-host.table.items c.as_slice-host-items.result.now
    (c.loop-host.invariant ∙ ap (map (beside_primary c.args.self.now (arc_value c.args.primary.now))) (take_all c.loop-host.host-index c.as_slice-host-items.result.now (omega arith)))
    ∙ ap (λ xs. tabulate xs (beside_primary c.args.self.now (arc_value c.args.primary.now))) (c.as_slice-host-items.ensures.value ∙ ap (λ (d : ServerDescription). d.listed) c.deref.ensures)
