use Rattle.std.proofs.Common.{◌≡◌, ◌≤◌, ◌<◌, ◌-◌, ℕ, Some, length}
use Rattle.std.specs.Prelude.{slice_get}
use Rattle.pool_book.specs.declared.connections.Available.{Available}
use Rattle.desk_trail.specs.States.{ServerState}
use Rattle.end_sessions.specs.Carriers.{AreReadable, Carries, IsAsked, IsToAsk, IsToAskAt}
use Rattle.end_sessions.specs.Farewells.{IsFreeOn}
use Rattle.end_sessions.proofs.ending.end_sessions.Given as goal

-- Up to there each server was asked of.
abbrev pub invariant-ending : goal.invariant-ending
invariant-ending g l =
    (l.place ≤ length l.ending.servers.now) × (length l.carriers.items ≤ length l.asking.lists.now)
    × IsToAsk l.wired.trail l.ending.closings l.ending.moment l.asking.lists.now l.carriers.items
    × Carries l.ending.moment l.ending.closings l.initial.wired l.wired l.initial.carriers.items l.carriers.items
    × (g.N.Net.faults l.initial.wired.net ≤ g.N.Net.faults l.wired.net)
    × ((x k stream : ℕ) (s : ServerState) (free : Available) → x < l.place → slice_get l.ending.servers.now x ≡ Some s →
    IsToAskAt l.initial.wired.trail.point.state s → slice_get s.pool.state.available k ≡ Some free →
    IsFreeOn s free l.initial.wired.lines l.ending.moment stream → IsAsked l.carriers.items l.asking.lists.now stream)

abbrev pub decreases-ending : goal.decreases-ending
decreases-ending g l = length l.ending.servers.now - l.place
