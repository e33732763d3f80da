use Rattle.std.proofs.Common.{length}
use Rattle.example_pool.proofs.sweep.Given as goal

-- Each turn of the loop takes a connection out of those that are available.
abbrev pub decreases-sweeping : goal.decreases-sweeping
decreases-sweeping l = length l.pool.available
