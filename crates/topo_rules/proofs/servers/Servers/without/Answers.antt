use Rattle.std.proofs.Common.{◌++◌, ◌∷◌, [], sym, ap, ◌∙◌, arith, filter, not, take, take_all}
use Rattle.std.proofs.lemmas.List.Elements.{filter-append}
use Rattle.std.specs.Arc.{arc_value}
use Rattle.std.specs.FinMap as map
use Rattle.host_name.specs.Addresses.{is_same_address}
use Rattle.topo_rules.specs.Seen.{described}
use Rattle.topo_rules.proofs.TableOrder.{seen-without}
use Rattle.topo_rules.proofs.Tabulate.{map_more}
use Rattle.topo_rules.proofs.servers.Servers.without.Goals as goal

pub loop-shared-preserved : goal.loop-shared-preserved
loop-shared-preserved c =
    c.in_ok-append_other.ensures
    ∙ ap (λ ds. ds ++ filter (λ d. not (is_same_address d.host c.args.host.now)) (arc_value c.shared-item.result ∷ [])) c.loop-shared.invariant
    ∙ sym (filter-append (λ d. not (is_same_address d.host c.args.host.now)) (described (take c.loop-shared.shared-index c.rows-rows.result.now)) (arc_value c.shared-item.result ∷ []))
    ∙ ap (filter (λ d. not (is_same_address d.host c.args.host.now))) (sym (map_more (λ s. arc_value s) c.rows-rows.result.now c.loop-shared.shared-index c.shared-item.result c.loop-shared-test.true c.shared-item.is))

pub returns : goal.returns
returns c =
    c.in_ok-servers.ensures
    ∙ seen-without c.args.host.now c.rows-rows.result.now c.loop-shared.table.items
    (c.loop-shared.invariant ∙ ap (λ es. filter (λ d. not (is_same_address d.host c.args.host.now)) (described es)) (take_all c.loop-shared.shared-index c.rows-rows.result.now (omega arith)))
    ∙ ap (λ m. map.remove m c.args.host.now) c.rows-rows.ensures.seen
