-- What a watch keeps (own: the refinement).
use Rattle.std.specs.Prelude.{◌+◌, ◌^◌, ◌≤◌}
use Rattle.watch_step.specs.declared.watch.Watch.TheInside.{Inside}
use Rattle.watch_step.specs.Checks.{Checks, IsInRange}

-- The checks that a watch stands for.
abbrev pub checks_of : Inside → Checks
checks_of w = record { beat = w.beat; due = w.due; began = w.began; ended = w.ended }

-- Moments and the interval are in range, so that no sum of them passes a u64.
pub record IsBounded (w : Inside) : Type 0 where
  pub beat : w.beat ≤ 2 ^ 42
  pub due : w.due ≤ 2 ^ 62 + 2 ^ 42
  pub began : IsInRange w.began
  pub ended : IsInRange w.ended
