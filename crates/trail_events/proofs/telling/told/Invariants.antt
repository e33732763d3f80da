use Rattle.std.proofs.Common.{take}
use Rattle.desk_trail.specs.Facts.{facts_of}
use Rattle.desk_trail.specs.Written.{lists_of}
use Rattle.trail_events.specs.Telling.{IsTelling}
use Rattle.trail_events.proofs.telling.told.Given as goal

abbrev pub invariant-telling : goal.invariant-telling
invariant-telling l = IsTelling (facts_of (lists_of l.trail) (take l.step-index l.trail.steps)) l.telling
