use Rattle.std.proofs.Common.{◌≤◌, ◌-◌, length}
use Rattle.desk_core.specs.Nexts.{AreAnsweredTo}
use Rattle.desk_core.proofs.lanes.next_in.Given as goal

-- Each command of the lane up to there is answered.
abbrev pub invariant-seeking : goal.invariant-seeking
invariant-seeking l = (l.place ≤ length l.commands) × AreAnsweredTo l.commands l.operations l.lane l.place

abbrev pub decreases-seeking : goal.decreases-seeking
decreases-seeking l = length l.commands - l.place
