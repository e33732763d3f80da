use Rattle.std.proofs.Common.{◌≡◌, ◌≤◌, take}
use Rattle.desk_trail.specs.Facts.{Lists, facts_of}
use Rattle.trail_events.specs.Told.{is_ready}
use Rattle.desk_hooks.proofs.ready.is_ready.Given as goal

abbrev pub invariant-looking : goal.invariant-looking
invariant-looking l = record {
  within : l.place ≤ l.ahead;
  same : (lists : Lists) → is_ready l.host (facts_of lists (take l.ahead l.steps)) ≡ is_ready l.host (facts_of lists (take l.place l.steps));
}

abbrev pub decreases-looking : goal.decreases-looking
decreases-looking l = l.place
