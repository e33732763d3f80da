use Rattle.std.proofs.Common.{◌++◌, ◌∷◌, [], refl, sym, ap, ◌∙◌, arith, map, take, take_all}
use Rattle.std.specs.Arc.{arc_value}
use Rattle.hello_reply.specs.Descriptions.{unknown as default_unknown_of}
use Rattle.topo_rules.proofs.Tabulate.{map_more, seen-tabulate}
use Rattle.topo_rules.proofs.servers.Servers.of_hosts.Goals as goal

pub loop-host-preserved : goal.loop-host-preserved
loop-host-preserved c =
    c.in_ok-append.ensures
    ∙ ap (λ ds. ds ++ arc_value c.in_ok-description.description ∷ []) c.loop-host.invariant
    ∙ ap (λ d. map default_unknown_of (take c.loop-host.host-index c.args.hosts.now) ++ d ∷ []) c.in_ok-description.ensures
    ∙ sym (map_more default_unknown_of c.args.hosts.now c.loop-host.host-index c.host-item.result c.loop-host-test.true c.host-item.is)

pub returns : goal.returns
returns c =
    c.in_ok-servers.ensures
    ∙ seen-tabulate default_unknown_of (λ x. refl) c.loop-host.table.items c.args.hosts.now
    (c.loop-host.invariant ∙ ap (map default_unknown_of) (take_all c.loop-host.host-index c.args.hosts.now (omega arith)))
