use Rattle.std.proofs.Common.{◌++◌, ◌∷◌, [], sym, ap, ◌∙◌, append_assoc, append-nil, arith, map, take, take_all}
use Rattle.std.specs.Arc.{arc_value}
use Rattle.std.specs.FinMap as map
use Rattle.topo_rules.specs.Maps.{known_or_new}
use Rattle.topo_rules.proofs.Tabulate.{take_none, map_more, seen-tabulate, known-host, joined-values}
use Rattle.topo_rules.proofs.servers.Servers.joined.Goals as goal

pub loop-host-init : goal.loop-host-init
loop-host-init c =
    c.in_ok-table.ensures.value ∙ sym (append-nil (map.values c.args.self.now))
    ∙ ap (λ xs. map.values c.args.self.now ++ map (known_or_new c.args.self.now) xs) (sym (take_none c.args.hosts.now))

pub loop-host-preserved : goal.loop-host-preserved
loop-host-preserved c =
    let so_far = map (known_or_new c.args.self.now) (take c.loop-host.host-index c.args.hosts.now) in
    c.in_ok-append.ensures
    ∙ ap (λ ds. ds ++ arc_value c.in_ok-description.description ∷ []) c.loop-host.invariant
    ∙ append_assoc (map.values c.args.self.now) so_far (arc_value c.in_ok-description.description ∷ [])
    ∙ ap (λ d. map.values c.args.self.now ++ (so_far ++ d ∷ [])) c.in_ok-description.ensures
    ∙ ap (λ ds. map.values c.args.self.now ++ ds) (sym (map_more (known_or_new c.args.self.now) c.args.hosts.now c.loop-host.host-index c.host-item.result c.loop-host-test.true c.host-item.is))

pub returns : goal.returns
returns c =
    c.in_ok-servers.ensures
    ∙ seen-tabulate (known_or_new c.args.self.now) (known-host c.args.self.now c.in_ok-table.ensures.hosts) c.loop-host.table.items (map.keys c.args.self.now ++ c.args.hosts.now)
    (c.loop-host.invariant ∙ ap (λ xs. map.values c.args.self.now ++ map (known_or_new c.args.self.now) xs) (take_all c.loop-host.host-index c.args.hosts.now (omega arith))
    ∙ sym (joined-values c.args.self.now c.args.hosts.now))
