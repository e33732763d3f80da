use Rattle.std.proofs.Common.{◌≡◌, ◌≤◌, ◌-◌, length, Some}
use Rattle.std.specs.Prelude.{slice_get}
use Rattle.std.proofs.Math.ListN.{drop}
use Rattle.desk_trail.specs.States.{ServerState}
use Rattle.desk_core.specs.Appends.{AppendsAside}
use Rattle.desk_core.specs.Shutting.{KeepsUses, is_of_pool, owing}
use Rattle.desk_core.proofs.ShutLemmas.{AreShutting}
use Rattle.desk_core.proofs.shutting.shut_available.Given as goal

-- Up to there the connections are shut, and those from there on must be shut next.
abbrev pub invariant-shutting : goal.invariant-shutting
invariant-shutting g l =
    (l.place ≤ length l.available)
    × ((s : ServerState) → slice_get l.initial.wired.trail.point.state.servers l.host ≡ Some (owing l.server.pool.state.available s)
    → AreShutting l.moment l.host l.server.pool.state.available (drop l.place l.server.pool.state.available) s l.initial.wired.trail l.wired.trail)
    × KeepsUses (is_of_pool l.host) l.initial.wired.lines l.wired.lines
    × (g.N.Net.faults l.initial.wired.net ≤ g.N.Net.faults l.wired.net)
    × AppendsAside ⊥ l.moment l.initial.wired.trail l.wired.trail

abbrev pub decreases-shutting : goal.decreases-shutting
decreases-shutting g l = length l.available - l.place
