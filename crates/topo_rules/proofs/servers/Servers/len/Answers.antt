use Rattle.std.proofs.Common.{sym, ap, ◌∙◌}
use Rattle.std.specs.FinMap as map
use Rattle.topo_rules.proofs.HostTables.{len-seen, in_order}
use Rattle.topo_rules.proofs.servers.Servers.len.Goals as goal

pub returns-clause-len : goal.returns-clause-len
returns-clause-len c = sym (len-seen c.rows.result.now c.rows.ensures.order) ∙ ap (λ m. map.len m) c.rows.ensures.seen

pub returns-clause-order : goal.returns-clause-order
returns-clause-order c = in_order c.args.self.now
