use Rattle.std.proofs.Common.{◌≡◌, ◌++◌, List, length, take}
use Rattle.desk_trail.specs.declared.step.Step.{Step as TrailStep}
use Rattle.trail_tally.specs.Tallies.{AreTallies}
use Rattle.trail_tally.proofs.tallies.note.Given as goal

abbrev pub invariant-noting : goal.invariant-noting
invariant-noting l =
    (length l.tallies ≡ length l.fn.tallies)
    × ((before : List TrailStep) → AreTallies before l.fn.tallies → AreTallies (before ++ take l.step-index l.appended) l.tallies)
