use Rattle.std.proofs.Common.{subst, sym, arith}
use Rattle.script_text.specs.Bounds.{IsBounded}
use Rattle.soak_plan.proofs.Bounds.{commands-bounded}
use Rattle.soak_plan.proofs.script.commands.Goals as goal

pub returns-clause-bounded : goal.returns-clause-bounded
returns-clause-bounded c = subst (λ cs. IsBounded cs) (sym c.loop-number.invariant) (commands-bounded c.loop-number.number (omega arith))
