-- What the laws on trails speak of.
use Rattle.std.specs.Prelude.{◌≡◌, ℕ, ◌+◌, Bool, false, ◌==◌, Option, Some, List, [], find}
use Rattle.std.specs.List.{list_any}
use Rattle.std.specs.Option.{option_map}
use Rattle.pool_book.specs.Pool.{Pool}
use Rattle.pool_book.specs.Entries.{PoolEntry, Lent, Dialled, NotLent, Late, Lost}
use Rattle.entry_judge.specs.Judge.{state_after}
use Rattle.pool_book.specs.Readings.{generation_by, lent_by, dials_by, Begun, Beginnings}

-- An entry gives a ticket a connection, to use or to dial (CMAP, Checking Out a Connection).
abbrev pub serves : ℕ → PoolEntry → Bool
serves number (Lent n conn) = n == number
serves number (Dialled n conn) = n == number
serves number e = false

-- Nothing began, and nothing was cleared (CMAP, Connection Pool, generation 0).
abbrev pub none_begun : Beginnings
none_begun = record { now = 0; begun = [] }

-- The generation that a pool had as a connection, or a ticket, of this number began (CMAP, Connection).
abbrev pub generation_of : ℕ → List Begun → Option ℕ
generation_of number bs = option_map (λ b. b.generation) (find (λ b. b.number == number) bs)

-- By the entries so far nobody has the connection, and it was dialled in the generation that the pool has (CMAP,
-- Checking Out a Connection).
pub record IsFree (es : List PoolEntry) (conn : ℕ) : Type 0 where
  pub no_borrower : list_any (λ q. q.conn == conn) (state_after lent_by [] es) ≡ false
  pub current : generation_of conn (state_after dials_by none_begun es).begun ≡ Some (state_after generation_by 0 es)

-- An entry refuses a ticket otherwise than because the pool is closed or cleared (CMAP, Checking Out a Connection).
abbrev pub misses : ℕ → PoolEntry → Bool
misses number (NotLent n Late) = n == number
misses number (NotLent n (Lost conn)) = n == number
misses number e = false

-- An entry lends a connection (CMAP, Checking Out a Connection).
abbrev pub lends : ℕ → PoolEntry → Bool
lends conn (Lent number c) = c == conn
lends conn e = false

-- What a pool counts: its clears, its tickets and its connections (own).
abbrev pub counted : Pool → ℕ
counted p = p.generation + p.entered + p.dialled
