use Rattle.std.proofs.Common.{rules}
use Rattle.std.proofs.lemmas.Fn.{always_returns_same}
use Rattle.std.proofs.lemmas.List.Sorted.{searchable_from_sorted}
use Rattle.host_name.specs.Addresses.{address_cmp}
use Rattle.host_name.proofs.HostOrder.{host_total}
use Rattle.topo_rules.proofs.TableOrder.{host_at, at_described, absent, sorted-in_order}
use Rattle.topo_rules.proofs.table.place_of.Goals as goal

pub returns-in-Ok-clause-found : goal.returns-in-Ok-clause-found
returns-in-Ok-clause-found c d =
    at_described c.args.host.now c.args.table.now c.in-Ok.place c.in-Ok.ensures.bound
    (c.in-Ok.ensures.position (λ s. address_cmp (host_at s) c.args.host.now) (always_returns_same _ _ _ (λ a r f h. search rules))) d

pub returns-in-Err-clause-absent : goal.returns-in-Err-clause-absent
returns-in-Err-clause-absent c =
    absent c.args.host.now c.args.table.now c.in-Err.field-0
    (c.in-Err.ensures.position (λ s. address_cmp (host_at s) c.args.host.now) (always_returns_same _ _ _ (λ a r f h. search rules))
    (searchable_from_sorted host_total host_at c.args.table.now c.args.host.now (sorted-in_order c.args.table.now c.requires)))
