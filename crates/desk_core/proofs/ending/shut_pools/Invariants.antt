use Rattle.std.proofs.Common.{◌≡◌, ◌≤◌, ◌<◌, ◌-◌, ℕ, true, false, Some, [], length}
use Rattle.std.specs.Prelude.{slice_get}
use Rattle.std.proofs.Math.ListN.{drop}
use Rattle.pool_book.specs.Pool.{is_closed}
use Rattle.desk_trail.specs.States.{ServerState}
use Rattle.desk_core.specs.Appends.{AppendsAside}
use Rattle.desk_core.specs.Servers.{closings}
use Rattle.desk_core.proofs.ending.shut_pools.Given as goal

-- Up to there the pools are closed: nothing must follow, and the servers from there on are as they were, with room for their closings.
abbrev pub invariant-shutting : goal.invariant-shutting
invariant-shutting g l =
    (l.place ≤ length l.servers) × (l.wired.trail.point.owed ≡ []) × (l.wired.trail.point.moment ≤ l.moment)
    × ((x : ℕ) → l.place ≤ x → slice_get l.wired.trail.point.state.servers x ≡ slice_get l.servers x)
    × (closings (drop l.place l.servers) ≤ l.wired.trail.room.steps) × (g.N.Net.faults l.initial.wired.net ≤ g.N.Net.faults l.wired.net)
    × AppendsAside ⊥ l.moment l.initial.wired.trail l.wired.trail
    × ((x : ℕ) (s : ServerState) → x < l.place → slice_get l.wired.trail.point.state.servers x ≡ Some s → s.has_left ≡ false → is_closed s.pool.state.state ≡ true)

abbrev pub decreases-shutting : goal.decreases-shutting
decreases-shutting g l = length l.servers - l.place
