use Rattle.std.proofs.Common.{◌≤◌, ◌-◌, length}
use Rattle.desk_core.proofs.DueLemmas.{IsFirstOf}
use Rattle.desk_core.proofs.due.earliest_of.Given as goal

-- Of the servers before the place the earliest check is the one so far.
abbrev pub invariant-looking : goal.invariant-looking
invariant-looking l = (l.place ≤ length l.servers) × IsFirstOf l.servers l.last l.place l.earliest

abbrev pub decreases-looking : goal.decreases-looking
decreases-looking l = length l.servers - l.place
