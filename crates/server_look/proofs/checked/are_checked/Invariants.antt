use Rattle.std.proofs.Common.{◌≡◌, ◌≤◌, ◌<◌, ◌-◌, ℕ, false, length, Some}
use Rattle.std.specs.Prelude.{slice_get}
use Rattle.desk_trail.specs.States.{ServerState}
use Rattle.server_look.specs.Waits.{IsChecked}
use Rattle.server_look.proofs.checked.are_checked.Given as goal

-- Those up to there were checked.
abbrev pub invariant-checking : goal.invariant-checking
invariant-checking l =
    (l.place ≤ length l.servers)
    × ((host : ℕ) (s : ServerState) → host < l.place → slice_get l.servers host ≡ Some s → s.has_left ≡ false → IsChecked l.moment l.wait host s)

abbrev pub decreases-checking : goal.decreases-checking
decreases-checking l = length l.servers - l.place
