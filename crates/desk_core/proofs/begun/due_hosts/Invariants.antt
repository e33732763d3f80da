use Rattle.std.proofs.Common.{◌-◌, length}
use Rattle.desk_core.proofs.BegunLemmas.{IsFound}
use Rattle.desk_core.proofs.begun.due_hosts.Given as goal

-- Of the servers before the place those of which a check is due are found.
abbrev pub invariant-looking : goal.invariant-looking
invariant-looking l = IsFound l.servers l.moment l.place l.hosts.items

abbrev pub decreases-looking : goal.decreases-looking
decreases-looking l = length l.servers - l.place
