use Rattle.std.proofs.Common.{ap, ◌∙◌, option_map}
use Rattle.std.specs.Arc.{arc_value}
use Rattle.topo_rules.proofs.TableOrder.{get-at-place}
use Rattle.topo_rules.proofs.table.find_in.Goals as goal

pub returns-in-Some : goal.returns-in-Some
returns-in-Some c =
    ap (option_map (λ s. arc_value s)) c.shared_at.ensures
    ∙ get-at-place c.args.table.now c.requires c.args.host.now c.in-Some.place c.in-Some.ensures.within c.in-Some.ensures.found
