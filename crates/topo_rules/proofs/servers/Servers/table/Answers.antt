use Rattle.std.proofs.Common.{sym, ap, ◌∙◌}
use Rattle.std.specs.FinMap as map
use Rattle.topo_rules.proofs.HostTables.{values-seen}
use Rattle.topo_rules.proofs.servers.Servers.table.Goals as goal

pub returns-clause-value : goal.returns-clause-value
returns-clause-value c = c.in_ok-table.ensures ∙ sym (values-seen c.rows.result.now c.rows.ensures.order) ∙ ap (λ m. map.values m) c.rows.ensures.seen
