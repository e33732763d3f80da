use Rattle.std.proofs.Common.{◌≡◌, ◌<◌, ◌+◌, List, length, drop, subst, ap, arith, length-drop}
use Rattle.std.proofs.lemmas.Bool.{ltb-true}
use Rattle.member_hall.specs.Orders.{IsInOrder}
use Rattle.member_hall.specs.declared.act.Planned.{Planned}
use Rattle.member_hall.proofs.Ordering.{order-from}
use Rattle.member_hall.proofs.plan.Plan.is_later.Goals as goal

pub returns-then-self-clause-later : goal.returns-then-self-clause-later
returns-then-self-clause-later c late =
    let acts : List Planned = drop c.self.inside.gone c.self.inside.acts.items in
    let own : acts ≡ c.args.self.now = c.self.view_is in
    let order : IsInOrder c.args.self.now = subst IsInOrder own (c.self.invariant.order c.if-self.true) in
    let after : c.args.turn < c.at.result.turn = ltb-true c.args.turn c.at.result.turn late in
    let there : c.args.place < length c.args.self.now =
    subst (λ (l : List Planned). c.args.place < length l) own (omega (arith, c.if-place-len.false, c.len.ensures, c.self.inside.acts.ok.0, length-drop c.self.inside.gone c.self.inside.acts.items)) in
    order-from c.args.self.now c.args.place (c.args.turn + 1) order there (omega (arith, after, ap (λ (p : Planned). p.turn) c.at.ensures))
