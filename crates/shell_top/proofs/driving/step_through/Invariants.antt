use Rattle.shell_top.specs.Going.{GoesOn, IsTold}
use Rattle.shell_top.proofs.driving.step_through.Given as goal

abbrev pub invariant-turns : goal.invariant-turns
invariant-turns g l = GoesOn l.fn.desk.desk l.desk.desk × IsTold l.desk.desk l.tallies
