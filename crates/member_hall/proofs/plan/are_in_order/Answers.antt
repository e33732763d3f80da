use Rattle.std.proofs.Common.{◌≡◌, ◌<◌, ◌+◌, ◌-◌, ℕ, List, length, drop, sym, subst, ap, arith}
use Rattle.std.specs.List.{slice_index_or}
use Rattle.std.proofs.lemmas.List.{get_or_default}
use Rattle.member_hall.specs.Halls.{no_act, plan_at}
use Rattle.member_hall.specs.Orders.{ActsFrom, IsInOrder}
use Rattle.member_hall.specs.declared.act.Act.TheVariants as act
use Rattle.member_hall.specs.declared.act.Planned.{Planned}
use Rattle.member_hall.proofs.Ordering.{order-more}
use Rattle.member_hall.proofs.plan.are_in_order.Goals as goal

pub looking-preserved : goal.looking-preserved
looking-preserved c =
    let acts : List Planned = c.args.acts.now in
    let place : ℕ = c.looking.place - 1 in
    let back : c.looking.place ≡ place + 1 = omega (arith, c.looking-test.true) in
    let there : place < length acts = omega (arith, c.looking.invariant.within, c.looking-test.true) in
    let same : slice_index_or acts place (record { turn = 0; act = act.Drop 0 }) ≡ plan_at acts place = get_or_default acts place (record { turn = 0; act = act.Drop 0 }) no_act there in
    let turn : (slice_index_or acts place (record { turn = 0; act = act.Drop 0 })).turn ≡ (plan_at acts place).turn = ap (λ (p : Planned). p.turn) same in
    let both = order-more acts place c.looking.turn there (subst (λ (n : ℕ). IsInOrder (drop n acts)) back c.looking.invariant.order) (subst (λ (n : ℕ). ActsFrom c.looking.turn (drop n acts)) back c.looking.invariant.from)
    (omega (arith, turn, c.if-acts-place.false)) in
    record { order = both.0; from = subst (λ (t : ℕ). ActsFrom t (drop place acts)) (sym turn) both.1; within = omega (arith, there) }
