use Rattle.std.proofs.Common.{[], List, sym, subst}
use Rattle.trail_tally.specs.Tallies.{AreTallies}
use Rattle.trail_tally.specs.declared.tally.Tally.{Tally}
use Rattle.shell_top.proofs.running.run_commands.Goals as goal

pub run_desk-requires-clause-fresh : goal.run_desk-requires-clause-fresh
run_desk-requires-clause-fresh g c κs within = subst (λ (l : List Tally). AreTallies [] l) (sym c.deref_mut.ensures.value) c.in-Ok.ensures.fresh
