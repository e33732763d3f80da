-- How many failed calls of its net a trail tells.
use Rattle.std.specs.Prelude.{◌+◌, ◌≤◌, ℕ, Bool, true, false, None, List, filter, length}
use Rattle.net_link.specs.Causes.{count_of}
use Rattle.desk_trail.specs.declared.entry.CheckHow.TheVariants as check
use Rattle.desk_trail.specs.declared.entry.Entry.{Entry}
use Rattle.desk_trail.specs.declared.entry.Entry.TheVariants as entry
use Rattle.desk_trail.specs.declared.step.Step.{Step}
use Rattle.write_retry.specs.declared.attempt_end.AttemptEnd.TheVariants as attempt

-- An entry tells that a call of the net failed: a check or an attempt ended so, or no stream could be made.
abbrev pub tells_fault : Entry → Bool
tells_fault (entry.CheckEnded host check.Fault) = true
tells_fault (entry.CheckEnded host check.NoDial) = true
tells_fault (entry.Dialled op host conn None) = true
tells_fault (entry.Ended op attempt.Fault) = true
tells_fault e = false

-- How many of these entries do.
abbrev pub faults_in : List Step → ℕ
faults_in steps = length (filter (λ (s : Step). tells_fault s.entry) steps)

-- The failed calls that are told are at most as many as the net counted (own: a count that stands at its greatest value bounds none).
abbrev pub IsCounted : ℕ → List Step → Type 0
IsCounted faults steps = count_of (faults_in steps) ≤ faults

-- The net counted one more than are told.
abbrev pub IsUntold : ℕ → List Step → Type 0
IsUntold faults steps = count_of (faults_in steps + 1) ≤ faults
