use Rattle.std.proofs.Common.{◌≤◌, drop, length}
use Rattle.member_hall.specs.Orders.{ActsFrom, IsInOrder}
use Rattle.member_hall.proofs.plan.are_in_order.Given as goal

abbrev pub invariant-looking : goal.invariant-looking
invariant-looking l = record {
  order : IsInOrder (drop l.place l.acts);
  from : ActsFrom l.turn (drop l.place l.acts);
  within : l.place ≤ length l.acts;
}

abbrev pub decreases-looking : goal.decreases-looking
decreases-looking l = l.place
