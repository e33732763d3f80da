use Rattle.std.proofs.Common.{◌≡◌, ◌-◌, length, take}
use Rattle.desk_trail.specs.Facts.{ArePlaced, Lists, facts_of}
use Rattle.desk_hooks.specs.Hearing.{HearMore}
use Rattle.desk_hooks.proofs.telling.tell_behind.Given as goal

abbrev pub invariant-telling : goal.invariant-telling
invariant-telling g l =
    (lists : Lists) → lists.requests ≡ l.requests → ArePlaced lists l.steps →
    HearMore g.L.Listener.heard g.L.Listener.leaves (facts_of lists (take l.behind l.steps)) (facts_of lists (take l.place l.steps)) l.fn.hooks l.hooks

abbrev pub decreases-telling : goal.decreases-telling
decreases-telling g l = length l.steps - l.place
