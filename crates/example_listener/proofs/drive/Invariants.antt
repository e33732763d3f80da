use Rattle.std.proofs.Common.{◌≡◌, false}
use Rattle.example_listener.proofs.drive.Given as goal

-- The client runs.
abbrev pub invariant-steps : goal.invariant-steps
invariant-steps l = l.client.desk.is_stopped ≡ false
