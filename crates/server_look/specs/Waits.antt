-- What a selection waits for before it fails (own: the refinement).
use Rattle.std.specs.Prelude.{◌≡◌, ℕ, List, false, Some, slice_get}
use Rattle.desk_trail.specs.Checks.{IsCheckedFor}
use Rattle.desk_trail.specs.States.{ServerState}
use Rattle.server_look.specs.declared.checked.Wait.{Wait}

abbrev pub IsChecked : ℕ → Wait → ℕ → ServerState → Type 0
IsChecked moment wait host s = IsCheckedFor moment wait.first wait.deadline wait.known host s

-- Each of the servers that stands in the topology was checked.
abbrev pub AreChecked : ℕ → Wait → List ServerState → Type 0
AreChecked moment wait servers =
    (host : ℕ) (s : ServerState) → slice_get servers host ≡ Some s → s.has_left ≡ false → IsChecked moment wait host s
