use Rattle.std.proofs.Common.{◌≡◌, ◌++◌, ◌+◌, ◌-◌, ◌<◌}
use Rattle.soak_plan.specs.Plans.{acts_from, plan_of}
use Rattle.soak_plan.proofs.plans.plan.Given as goal

-- The acts so far and those that are still to come are the plan, and the last elected one is a member.
abbrev pub invariant-loop-number : goal.invariant-loop-number
invariant-loop-number l = record {
  acts : l.acts ++ acts_from (l.number + 1) (l.count - l.number) (record { state = l.draws; elected = l.elected }) ≡ plan_of l.seed l.count;
  member : l.elected < 3;
}
