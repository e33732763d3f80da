use Rattle.topo_rules.proofs.servers.Servers.sorted.Goals as goal

pub invariant_of-result : goal.invariant_of-result
invariant_of-result c = rw c.in_ok-table.ensures c.in_ok-put_in_order.ensures.order

pub returns : goal.returns
returns c = rw c.in_ok-table.ensures c.in_ok-put_in_order.ensures.seen
