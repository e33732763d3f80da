use Rattle.std.proofs.Common.{◌≡◌, ◌≤◌, ◌-◌, ◌++◌, length, map, take}
use Rattle.std.proofs.Math.ListN.{drop}
use Rattle.desk_trail.specs.Checks.{asked}
use Rattle.cmd_step.proofs.asking.ask_all.Given as goal

-- Checks of the servers up to there are asked for.
abbrev pub invariant-asking : goal.invariant-asking
invariant-asking l = (l.place ≤ length l.servers) × (map (asked l.moment) l.fn.servers ≡ take l.place l.servers ++ map (asked l.moment) (drop l.place l.servers))

abbrev pub decreases-asking : goal.decreases-asking
decreases-asking l = length l.servers - l.place
