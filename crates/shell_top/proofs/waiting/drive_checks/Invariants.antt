use Rattle.std.proofs.Common.{◌≡◌, false}
use Rattle.shell_top.specs.Going.{GoesOn, IsTold}
use Rattle.shell_top.proofs.waiting.drive_checks.Given as goal

abbrev pub invariant-checking : goal.invariant-checking
invariant-checking g l = GoesOn l.fn.desk.desk l.desk.desk × IsTold l.desk.desk l.tallies × (l.desk.desk.is_stopped ≡ false)
