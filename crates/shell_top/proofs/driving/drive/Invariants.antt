use Rattle.shell_top.specs.Going.{AreAnsweredTo, GoesOn, IsTold}
use Rattle.shell_top.proofs.driving.drive.Given as goal

abbrev pub invariant-commands : goal.invariant-commands
invariant-commands g l = GoesOn l.fn.desk.desk l.desk.desk × IsTold l.desk.desk l.tallies × AreAnsweredTo l.op l.desk.desk.trail.steps
