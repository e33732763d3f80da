use Rattle.std.proofs.Common.{◌≡◌, length, take}
use Rattle.effect_count.specs.Inside.{AreCounts}
use Rattle.effect_count.proofs.index.RequestIndex.counts.Given as goal

abbrev pub invariant-counting : goal.invariant-counting
invariant-counting l = (length l.counts.items ≡ l.count) × AreCounts l.self (take l.entry-index l.log) l.counts.items
