use Rattle.std.proofs.Common.{◌-◌, ◌≡◌, false}
use Rattle.desk_cases.proofs.commanding.is_next.Given as goal

-- Each step leaves the client as it is.
abbrev pub invariant-lanes : goal.invariant-lanes
invariant-lanes g l = (l.desk ≡ l.fn.desk) × (l.desk.is_stopped ≡ false)

abbrev pub decreases-lanes : goal.decreases-lanes
decreases-lanes g l = 64 - l.before
