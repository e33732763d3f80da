use Rattle.std.proofs.Common.{◌≡◌, ◌<◌, ◌+◌, ◌^◌, drop}
use Rattle.shell_top.specs.Summary.{of_writes}
use Rattle.shell_top.proofs.summary.of_writes.Given as goal

abbrev pub invariant-adding : goal.invariant-adding
invariant-adding l = of_writes l.commands l.counts < 2 ^ 64 → l.sum + of_writes (drop l.place l.commands) (drop l.place l.counts) ≡ of_writes l.commands l.counts
