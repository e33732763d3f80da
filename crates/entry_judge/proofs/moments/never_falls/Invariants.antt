-- The entries from the first on are judged as those that are left are, from the last moment on.
use Rattle.std.proofs.Common.{◌↔◌, drop}
use Rattle.entry_judge.specs.Moments.{NeverFalls}
use Rattle.entry_judge.proofs.moments.never_falls.Given as goal

abbrev pub invariant-loop-entry : goal.invariant-loop-entry
invariant-loop-entry g l = NeverFalls 0 l.entries ↔ NeverFalls l.last (drop l.entry-index l.entries)
