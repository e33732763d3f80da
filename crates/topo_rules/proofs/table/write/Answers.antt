use Rattle.std.proofs.lemmas.List.{map-set}
use Rattle.std.specs.Arc.{arc_value}
use Rattle.topo_rules.proofs.table.write.Goals as goal

pub returns : goal.returns
returns c = map-set (λ s. arc_value s) c.args.table.now.items c.args.place c.args.description
