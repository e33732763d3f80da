use Rattle.std.proofs.Common.{◌≡◌, drop, max}
use Rattle.shell_top.specs.Summary.{greatest}
use Rattle.shell_top.proofs.summary.greatest.Given as goal

abbrev pub invariant-comparing : goal.invariant-comparing
invariant-comparing l = max l.most (greatest (drop l.count-index l.counts)) ≡ greatest l.counts
