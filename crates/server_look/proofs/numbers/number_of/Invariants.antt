use Rattle.std.proofs.Common.{◌≡◌, ◌≤◌, ◌-◌, length}
use Rattle.std.proofs.Math.ListN.{drop}
use Rattle.desk_trail.specs.States.{number_from}
use Rattle.server_look.proofs.numbers.number_of.Given as goal

-- Up to there no server stands with that address.
abbrev pub invariant-seeking : goal.invariant-seeking
invariant-seeking l = (l.place ≤ length l.servers) × (number_from l.place (drop l.place l.servers) l.host ≡ number_from 0 l.servers l.host)

abbrev pub decreases-seeking : goal.decreases-seeking
decreases-seeking l = length l.servers - l.place
