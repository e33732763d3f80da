-- How a server moves by an entry of its pool.
use Rattle.std.specs.Prelude.{◌≡◌, ℕ}
use Rattle.entry_judge.specs.Groups.{nothing_owed}
use Rattle.pool_book.specs.declared.answers.Take.{Take}
use Rattle.pool_book.specs.declared.answers.Take.TheVariants as take_of
use Rattle.pool_book.specs.Answers.{MustWait}
use Rattle.pool_book.specs.Entries.{PoolEntry, MayStand, after, Lent, Dialled, NotLent, Closed, Cleared, Late}
use Rattle.desk_trail.specs.States.{ServerState}

-- The server behind an entry of its pool and all that must follow it at once (CMAP, Connection Pool).
abbrev pub behind_group : ℕ → PoolEntry → ServerState → ServerState
behind_group moment e s = record s { pool = nothing_owed (after s.pool.state moment e) }

-- The entry may stand next of the server's pool, and the server is behind it and all that must follow it at once (own: what one
-- call does).
pub record MovesBy (moment : ℕ) (e : PoolEntry) (old new : ServerState) : Type 0 where
  pub stands : MayStand old.pool.state moment e
  pub moves : new ≡ behind_group moment e old

-- The answer to a ticket is an entry that may stand, by which the server moves; it waits where no other is due, and then the server
-- stays as it is (CMAP, Checking Out a Connection).
abbrev pub AnswersBy : ℕ → ℕ → Take → ServerState → ServerState → Type 0
AnswersBy moment number (take_of.Lent conn) old new = MovesBy moment (Lent number conn) old new
AnswersBy moment number (take_of.Dial conn) old new = MovesBy moment (Dialled number conn) old new
AnswersBy moment number (take_of.Cleared g) old new = MovesBy moment (NotLent number (Cleared g)) old new
AnswersBy moment number take_of.Closed old new = MovesBy moment (NotLent number Closed) old new
AnswersBy moment number take_of.Late old new = MovesBy moment (NotLent number Late) old new
AnswersBy moment number take_of.Wait old new = (new ≡ old) × MustWait old.pool.state moment number
