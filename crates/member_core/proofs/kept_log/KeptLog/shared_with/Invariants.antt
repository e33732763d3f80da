use Rattle.std.specs.Prelude.{◌≤◌, ◌-◌}
use Rattle.member_core.specs.Shares.{IsShared}
use Rattle.member_core.proofs.kept_log.KeptLog.shared_with.Given as goal

abbrev pub invariant-loop-count : goal.invariant-loop-count
invariant-loop-count l = record { shared : IsShared l.count l.self l.other; more : l.shared ≤ l.count }

abbrev pub decreases-loop-count : goal.decreases-loop-count
decreases-loop-count l = l.most - l.count
