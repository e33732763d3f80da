-- What is read off the entries so far, each word of the standard by itself, one entry after another.
use Rattle.std.specs.Prelude.{ℕ, ◌+◌, not, ◌==◌, List, [], ◌∷◌, ◌++◌, filter, map, if◌then◌else◌}
use Rattle.wait_line.specs.Queue.{without_number}
use Rattle.pool_book.specs.declared.state.PoolState.{PoolState}
use Rattle.pool_book.specs.declared.state.PoolState.TheVariants as state_of
use Rattle.pool_book.specs.declared.connections.Held.{Held}
use Rattle.pool_book.specs.declared.connections.Available.{Available}
use Rattle.pool_book.specs.Pool.{is_closed}
use Rattle.pool_book.specs.Entries.{PoolEntry, Ready, Clear, Shut, Entered, Left, Lent, Dialled, Settled, NotLent, CheckedIn, ConnShut}

-- The generation is the number of clears (CMAP, Clearing a Connection Pool).
abbrev pub generation_by : ℕ → PoolEntry → ℕ
generation_by g Clear = g + 1
generation_by g e = g

-- A pool is closed once it was closed; else ready where it was made ready since its last clear; else paused (CMAP,
-- Connection Pool).
abbrev pub state_by : PoolState → PoolEntry → PoolState
state_by s Ready = if is_closed s then state_of.Closed else state_of.Ready
state_by s Clear = if is_closed s then state_of.Closed else state_of.Paused
state_by s Shut = state_of.Closed
state_by s e = s

-- Those wait that entered and since neither got nor dialled a connection, nor got none, nor left (CMAP, WaitQueue).
abbrev pub waiting_by : List ℕ → PoolEntry → List ℕ
waiting_by ns (Entered number) = ns ++ number ∷ []
waiting_by ns (Left number) = without_number number ns
waiting_by ns (Lent number conn) = without_number number ns
waiting_by ns (Dialled number conn) = without_number number ns
waiting_by ns (NotLent number why) = without_number number ns
waiting_by ns e = ns

-- Those are pending that were dialled and since neither settled nor shut (CMAP, Establishing a Connection).
abbrev pub pending_by : List ℕ → PoolEntry → List ℕ
pending_by cs (Dialled number conn) = cs ++ conn ∷ []
pending_by cs (Settled number conn stale) = without_number conn cs
pending_by cs (ConnShut conn reason) = without_number conn cs
pending_by cs e = cs

-- Those are available that were checked in and since neither lent nor shut (CMAP, Checking In a Connection).
abbrev pub available_by : List ℕ → PoolEntry → List ℕ
available_by cs (CheckedIn number conn errored) = cs ++ conn ∷ []
available_by cs (Lent number conn) = without_number conn cs
available_by cs (ConnShut conn reason) = without_number conn cs
available_by cs e = cs

-- A ticket and the connection that it is lent (CMAP, Checking Out a Connection).
pub record Pair : Type 0 where
  pub ticket : ℕ
  pub conn : ℕ

-- Those pairs are lent that were lent and of which the connection was not checked in since (CMAP, Checking Out a
-- Connection, Checking In a Connection).
abbrev pub lent_by : List Pair → PoolEntry → List Pair
lent_by ps (Lent number conn) = ps ++ record { ticket = number; conn = conn } ∷ []
lent_by ps (CheckedIn number conn errored) = filter (λ q. not (q.conn == conn)) ps
lent_by ps e = ps

-- The same of the connections that a pool holds (own).
abbrev pub conns_of : List Held → List ℕ
conns_of hs = map (λ h. h.conn) hs

abbrev pub pairs_of : List Held → List Pair
pairs_of hs = map (λ h. record { ticket = h.ticket; conn = h.conn }) hs

abbrev pub free_of : List Available → List ℕ
free_of xs = map (λ a. a.conn) xs

-- A connection or a ticket, by its number, and the generation that the pool had as it began (CMAP, Connection,
-- generation; WaitQueue).
pub record Begun : Type 0 where
  pub number : ℕ
  pub generation : ℕ

-- The generation so far, and what began, each with the generation in which it did (CMAP, Connection Pool, generation).
pub record Beginnings : Type 0 where
  pub now : ℕ
  pub begun : List Begun

-- A connection begins as it is dialled (CMAP, Connection, generation).
abbrev pub dials_by : Beginnings → PoolEntry → Beginnings
dials_by d Clear = record d { now = d.now + 1 }
dials_by d (Dialled number conn) = record d { begun = d.begun ++ record { number = conn; generation = d.now } ∷ [] }
dials_by d e = d

-- A ticket begins as it enters (CMAP, WaitQueue).
abbrev pub tickets_by : Beginnings → PoolEntry → Beginnings
tickets_by d Clear = record d { now = d.now + 1 }
tickets_by d (Entered number) = record d { begun = d.begun ++ record { number = number; generation = d.now } ∷ [] }
tickets_by d e = d
