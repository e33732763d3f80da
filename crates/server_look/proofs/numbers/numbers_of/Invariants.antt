use Rattle.std.proofs.Common.{◌≡◌, ◌≤◌, ◌+◌, ◌-◌, length, take}
use Rattle.desk_trail.specs.Looks.{AreNumbersOf}
use Rattle.desk_trail.specs.States.{ClientState}
use Rattle.server_look.proofs.numbers.numbers_of.Given as goal

-- The hosts up to there have their numbers, and there is room for the others.
abbrev pub invariant-numbering : goal.invariant-numbering
invariant-numbering l =
    (l.place ≤ length l.hosts) × (length l.hosts ≤ l.place + l.numbers.room)
    × ((w : ClientState) → w.servers ≡ l.servers → AreNumbersOf w l.numbers.items (take l.place l.hosts))

abbrev pub decreases-numbering : goal.decreases-numbering
decreases-numbering l = length l.hosts - l.place
