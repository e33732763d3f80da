use Rattle.std.proofs.Common.{◌++◌, ◌∷◌, [], ap, ◌∙◌}
use Rattle.std.specs.Arc.{arc_value}
use Rattle.topo_rules.proofs.TableOrder.{seen-push}
use Rattle.topo_rules.proofs.servers.Servers.add.Goals as goal

pub returns-clause-ok : goal.returns-clause-ok
returns-clause-ok c =
    c.in_ok-servers.ensures
    ∙ seen-push c.args.self.now c.in_ok-table.ensures.hosts _ (arc_value c.args.description) (c.in_ok-append.ensures ∙ ap (λ ds. ds ++ arc_value c.args.description ∷ []) c.in_ok-table.ensures.value) c.requires
