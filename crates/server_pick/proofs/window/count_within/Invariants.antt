use Rattle.std.proofs.Common.{◌≡◌, ◌≤◌, ◌+◌, drop, filter, length, nat_le}
use Rattle.server_pick.proofs.window.count_within.Given as goal

abbrev pub invariant-loop-candidate : goal.invariant-loop-candidate
invariant-loop-candidate l =
    (l.count ≤ l.candidate-index)
    × (l.count + length (filter (λ c. nat_le c.mean l.end) (drop l.candidate-index l.kept)) ≡ length (filter (λ c. nat_le c.mean l.end) l.kept))
