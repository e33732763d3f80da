use Rattle.std.proofs.Common.{ap, ◌∙◌}
use Rattle.std.specs.FinMap as map
use Rattle.topo_rules.proofs.servers.Servers.find.Goals as goal

pub returns-clause-value : goal.returns-clause-value
returns-clause-value c = c.find_in.ensures ∙ ap (λ m. map.get m c.args.host.now) c.rows.ensures.seen
