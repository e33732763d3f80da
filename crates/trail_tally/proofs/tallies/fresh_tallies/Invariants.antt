use Rattle.std.proofs.Common.{◌≡◌, [], length}
use Rattle.trail_tally.specs.Tallies.{AreTallies}
use Rattle.trail_tally.proofs.tallies.fresh_tallies.Given as goal

abbrev pub invariant-making : goal.invariant-making
invariant-making l = (length l.tallies.items ≡ l.counter) × AreTallies [] l.tallies.items
