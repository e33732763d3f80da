use Rattle.std.proofs.Common.{◌+◌, ◌-◌, arith}
use Rattle.soak_plan.proofs.Planning.{Step, step_keeps}
use Rattle.soak_plan.proofs.plans.plan.Goals as goal

pub loop-number-preserved : goal.loop-number-preserved
loop-number-preserved c =
    let step : Step c.loop-number.acts c.push_acts.new.acts (c.loop-number.number + 1) c.loop-number.draws c.loop-number.elected c.draw-kind.new.self c.elected_behind-elected.result = record {
      turn = c.draw.result;
      between = c.draw.new.self;
      kind = c.draw-kind.result;
      first = c.draw.ensures.number;
      first_behind = c.draw.ensures.state;
      second = c.draw-kind.ensures.number;
      second_behind = c.draw-kind.ensures.state;
      acts = rw c.from.ensures at c.in_ok-push_acts.ensures;
      elects = c.elected_behind-elected.ensures.elected;
    } in
    record {
      acts = step_keeps _ _ _ _ (c.args.count - c.loop-number.number) _ _ _ _ _ step c.loop-number.invariant.acts (omega arith);
      member = c.elected_behind-elected.ensures.member;
    }
