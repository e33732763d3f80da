use Rattle.std.proofs.Common.{◌≡◌, ◌≤◌, ◌<◌, ◌-◌, ℕ, Some, length}
use Rattle.std.specs.Prelude.{slice_get}
use Rattle.pool_book.specs.declared.connections.Available.{Available}
use Rattle.end_sessions.specs.Carriers.{Carries, IsAsked, IsToAsk, IsToAskAt}
use Rattle.end_sessions.specs.Farewells.{IsFreeOn}
use Rattle.end_sessions.proofs.asking.ask_each.Given as goal

-- Up to there each connection was asked of.
abbrev pub invariant-asking : goal.invariant-asking
invariant-asking g l =
    (l.place ≤ length l.available) × (length l.carriers.items ≤ length l.asking.lists.now)
    × IsToAsk l.wired.trail l.asking.closings l.asking.moment l.asking.lists.now l.carriers.items
    × IsToAskAt l.wired.trail.point.state l.server
    × Carries l.asking.moment l.asking.closings l.initial.wired l.wired l.initial.carriers.items l.carriers.items
    × (g.N.Net.faults l.initial.wired.net ≤ g.N.Net.faults l.wired.net)
    × ((k stream : ℕ) (free : Available) → k < l.place → slice_get l.server.pool.state.available k ≡ Some free →
    IsFreeOn l.server free l.initial.wired.lines l.asking.moment stream → IsAsked l.carriers.items l.asking.lists.now stream)

abbrev pub decreases-asking : goal.decreases-asking
decreases-asking g l = length l.available - l.place
