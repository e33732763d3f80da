use Rattle.std.proofs.Common.{◌≡◌}
use Rattle.soak_plan.specs.Commands.{commands_of}
use Rattle.soak_plan.proofs.script.commands.Given as goal

abbrev pub invariant-loop-number : goal.invariant-loop-number
invariant-loop-number l = l.commands ≡ commands_of l.number
