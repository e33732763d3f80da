-- Why a ticket got nothing, in the words of the pool and in those of a command's attempt (CMAP, ConnectionCheckOutFailedEvent).
use Rattle.std.specs.Prelude.{ℕ, ◌==◌, Option, None, Some, if◌then◌else◌}
use Rattle.pool_book.specs.Entries.{CheckOutFailure, Cleared, Closed, Late}
use Rattle.write_retry.specs.declared.events.Unsent.{Unsent}
use Rattle.write_retry.specs.declared.events.Unsent.TheVariants as unsent

abbrev pub refusal_by : ℕ → Unsent → Option CheckOutFailure
refusal_by host unsent.PoolLate = Some Late
refusal_by host (unsent.PoolCleared generation) = Some (Cleared generation)
refusal_by host (unsent.PoolClosed closed) = if closed == host then Some Closed else None
refusal_by host u = None
