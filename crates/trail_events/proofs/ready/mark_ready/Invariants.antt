use Rattle.std.proofs.Common.{◌≡◌, ℕ, ◌+◌, ◌-◌, length}
use Rattle.trail_events.specs.Telling.{ready_at}
use Rattle.trail_events.proofs.ready.mark_ready.Given as goal

abbrev pub invariant-growing : goal.invariant-growing
invariant-growing l = (x : ℕ) → ready_at l.ready.items x ≡ ready_at l.fn.ready.items x

abbrev pub decreases-growing : goal.decreases-growing
decreases-growing l = l.place + 1 - length l.ready.items
