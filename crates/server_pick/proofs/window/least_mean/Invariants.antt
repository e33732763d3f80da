use Rattle.std.proofs.Common.{◌≡◌, drop}
use Rattle.server_pick.specs.Windows.{lesser, least_of}
use Rattle.server_pick.proofs.window.least_mean.Given as goal

abbrev pub invariant-loop-candidate : goal.invariant-loop-candidate
invariant-loop-candidate l = lesser l.least (least_of (λ c. c.mean) (drop l.candidate-index l.kept)) ≡ least_of (λ c. c.mean) l.kept
