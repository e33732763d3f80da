use Rattle.std.proofs.Common.{rules}
use Rattle.std.proofs.lemmas.Fn.{dedup_same}
use Rattle.std.proofs.lemmas.List.Sorted.{answers_always, ranks_by}
use Rattle.std.specs.Ordering.{is_lt}
use Rattle.host_name.specs.Addresses.{is_same_address}
use Rattle.host_name.proofs.HostOrder.{host_total}
use Rattle.topo_rules.proofs.TableOrder.{host_at, host_order, dedup-in_order, seen-sorted}
use Rattle.topo_rules.proofs.table.put_in_order.Goals as goal

pub returns : goal.returns
returns c =
    let kept = dedup_same _ (λ a b. is_same_address (host_at a) (host_at b)) _ (λ x y b f' x' y' k. search rules) _ _ c.dedup_by.ensures.filtered in
    let sorted = c.in_ok-sort_by.ensures.sorted (λ a b. is_lt (host_order a b)) (ranks_by host_total host_at) (answers_always _ _ _ (λ f a r g h. search rules)) in
    let stable = c.sort_by.ensures.stable (λ a b. is_lt (host_order a b)) (ranks_by host_total host_at) (answers_always _ _ _ (λ f a r g h. search rules)) in
    record { order = rw kept (dedup-in_order _ sorted); seen = rw kept (seen-sorted _ _ stable) }
