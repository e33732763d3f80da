use Rattle.std.proofs.Common.{◌≡◌, drop, filter, nat_le, slice_get}
use Rattle.server_pick.proofs.window.nth_within.Given as goal

abbrev pub invariant-loop-candidate : goal.invariant-loop-candidate
invariant-loop-candidate l =
    slice_get (filter (λ c. nat_le c.mean l.end) (drop l.candidate-index l.kept)) l.before ≡ slice_get (filter (λ c. nat_le c.mean l.end) l.kept) l.place
