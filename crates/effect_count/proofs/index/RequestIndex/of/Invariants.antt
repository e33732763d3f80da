use Rattle.std.proofs.Common.{take}
use Rattle.effect_count.specs.Inside.{HasRequests, requests_by}
use Rattle.effect_count.proofs.index.RequestIndex.of.Given as goal

abbrev pub invariant-noting : goal.invariant-noting
invariant-noting l = HasRequests l.index (requests_by l.requests (take l.step-index l.trail.steps))
