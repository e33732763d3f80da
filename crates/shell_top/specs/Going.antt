-- How a client's desk goes on in a run.
use Rattle.std.specs.Prelude.{◌≡◌, ◌<◌, ℕ, List, ◌++◌, IsSome, length}
use Rattle.desk_trail.specs.declared.step.Step.{Step}
use Rattle.trail_tally.specs.Tallies.{AreTallies, answer_of}
use Rattle.trail_tally.specs.declared.tally.Tally.{Tally}
use Rattle.desk_core.specs.State.{Desk}

-- ---- What only private functions cite

-- A desk goes on: its client stays, and entries are appended.
pub record GoesOn {N P : Type 0} (old new : Desk N P) : Type 0 where
  pub client : new.trail.client ≡ old.trail.client
  pub added : List Step
  pub steps : new.trail.steps ≡ old.trail.steps ++ added

-- A desk's tallies: one a command, each what its trail says of it.
pub record IsTold {N P : Type 0} (d : Desk N P) (ts : List Tally) : Type 0 where
  pub each : AreTallies d.trail.steps ts
  pub count : length ts ≡ length d.trail.client.commands

-- The commands ahead of that one were answered.
abbrev pub AreAnsweredTo : ℕ → List Step → Type 0
AreAnsweredTo op steps = (k : ℕ) → k < op → IsSome (answer_of k steps)
