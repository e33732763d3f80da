-- No connection so far is available since an earlier moment.
use Rattle.std.proofs.Common.{ℕ, ◌<◌, ◌≤◌, get_or}
use Rattle.pool_book.specs.declared.connections.Available.{Available}
use Rattle.pool_book.proofs.available_list.earliest.Given as goal

abbrev pub invariant-loop-available : goal.invariant-loop-available
invariant-loop-available l = (k : ℕ) (d : Available) → k < l.available-index → l.earliest ≤ (get_or l.items k d).since
