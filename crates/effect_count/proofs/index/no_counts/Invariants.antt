use Rattle.std.proofs.Common.{◌≡◌, ℕ, Some, length}
use Rattle.std.specs.Prelude.{slice_get}
use Rattle.effect_count.proofs.index.no_counts.Given as goal

abbrev pub invariant-making : goal.invariant-making
invariant-making l = (length l.counts.items ≡ l.counter) × ((k n : ℕ) → slice_get l.counts.items k ≡ Some n → n ≡ 0)
