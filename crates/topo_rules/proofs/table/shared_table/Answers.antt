use Rattle.std.proofs.Common.{◌++◌, ◌∷◌, [], sym, ap, ◌∙◌, arith, take, take_all}
use Rattle.std.specs.Arc.{arc_value}
use Rattle.topo_rules.specs.Seen.{described}
use Rattle.topo_rules.proofs.Tabulate.{map_more}
use Rattle.topo_rules.proofs.table.shared_table.Goals as goal

pub loop-shared-preserved : goal.loop-shared-preserved
loop-shared-preserved c =
    c.in_ok-append.ensures
    ∙ ap (λ ds. ds ++ arc_value c.in_ok-copy.copy ∷ []) c.loop-shared.invariant
    ∙ ap (λ d. described (take c.loop-shared.shared-index c.args.from.now) ++ d ∷ []) c.in_ok-copy.ensures
    ∙ sym (map_more (λ s. arc_value s) c.args.from.now c.loop-shared.shared-index c.shared-item.result c.loop-shared-test.true c.shared-item.is)

pub returns : goal.returns
returns c = c.loop-shared.invariant ∙ ap (λ es. described es) (take_all c.loop-shared.shared-index c.args.from.now (omega arith))
