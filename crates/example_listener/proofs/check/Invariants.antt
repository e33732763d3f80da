use Rattle.std.proofs.Common.{◌≡◌, false}
use Rattle.example_listener.proofs.check.Given as goal

-- The client runs.
abbrev pub invariant-servers : goal.invariant-servers
invariant-servers l = l.client.desk.is_stopped ≡ false
