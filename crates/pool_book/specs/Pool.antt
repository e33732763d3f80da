-- A connection pool, as its book shows it (CMAP, Connection Pool).
use Rattle.std.specs.Prelude.{ℕ, ◌+◌, ◌-◌, Bool, true, false, not, ◌&&◌, ◌||◌, ◌==◌, nat_lt, nat_le, Option, List, [], length, filter, find, map, slice_get, if◌then◌else◌}
use Rattle.std.specs.List.{list_any}
use Rattle.wait_line.specs.Queue.{is_first}
use Rattle.pool_book.specs.declared.rules.PoolRules.{PoolRules}
use Rattle.pool_book.specs.declared.state.PoolState.{PoolState}
use Rattle.pool_book.specs.declared.state.PoolState.TheVariants as state_of
use Rattle.pool_book.specs.declared.ticket.Ticket.{Ticket}
use Rattle.pool_book.specs.declared.connections.Held.{Held}
use Rattle.pool_book.specs.declared.connections.Available.{Available}
use Rattle.pool_book.specs.declared.answers.CloseReason.{CloseReason}
use Rattle.pool_book.specs.declared.answers.CloseReason.TheVariants.{Stale, Idle, Errored, PoolClosed}

-- A pool: its rules, state and generation, who waits, the connections that are pending, lent and available, and how
-- many tickets and connections it gave numbers to (CMAP, Connection Pool).
pub record Pool : Type 0 where
  pub rules : PoolRules
  pub state : PoolState
  pub generation : ℕ
  pub waiting : List Ticket  -- in the order in which they entered
  pub pending : List Held
  pub lent : List Held
  pub available : List Available  -- in the order in which they were checked in
  pub entered : ℕ  -- the next ticket has this number
  pub dialled : ℕ  -- the next connection has this number and one

-- A pool begins paused, with nothing in it (CMAP, Creating a Connection Pool).
abbrev pub fresh_pool : PoolRules → Pool
fresh_pool r = record {
  rules = r;
  state = state_of.Paused;
  generation = 0;
  waiting = [];
  pending = [];
  lent = [];
  available = [];
  entered = 0;
  dialled = 0;
}

-- A pool gives out no connection yet, or not until it is made ready again (CMAP, Connection Pool, paused).
abbrev pub is_paused : PoolState → Bool
is_paused state_of.Paused = true
is_paused state_of.Ready = false
is_paused state_of.Closed = false

-- A pool gives out connections (CMAP, Connection Pool, ready).
abbrev pub is_ready : PoolState → Bool
is_ready state_of.Paused = false
is_ready state_of.Ready = true
is_ready state_of.Closed = false

-- A pool gives out no connection any more (CMAP, Connection Pool, closed).
abbrev pub is_closed : PoolState → Bool
is_closed state_of.Paused = false
is_closed state_of.Ready = false
is_closed state_of.Closed = true

-- The ticket of this number, if it is there (own: a ticket is known by its number).
abbrev pub ticket_of : ℕ → List Ticket → Option Ticket
ticket_of number ts = find (λ t. t.number == number) ts

-- The tickets without that of this number (own: as above).
abbrev pub without_ticket : ℕ → List Ticket → List Ticket
without_ticket number ts = filter (λ t. not (t.number == number)) ts

-- The numbers of tickets, in the same order: the line (CMAP, WaitQueue).
abbrev pub numbers_of : List Ticket → List ℕ
numbers_of ts = map (λ t. t.number) ts

-- The connection of this number among those that are pending, or lent (CMAP, Connection, id).
abbrev pub held_of : ℕ → List Held → Option Held
held_of conn hs = find (λ h. h.conn == conn) hs

-- Pending or lent connections without that of this number (CMAP, Connection, id).
abbrev pub without_held : ℕ → List Held → List Held
without_held conn hs = filter (λ h. not (h.conn == conn)) hs

-- Available connections without that of this number (CMAP, Connection, id).
abbrev pub without_available : ℕ → List Available → List Available
without_available conn xs = filter (λ a. not (a.conn == conn)) xs

-- The available connection that was checked in last, which is lent next (own: it is the least likely to be idle for
-- long; CMAP leaves the choice open).
abbrev pub last_of : List Available → Option Available
last_of xs = slice_get xs (length xs - 1)

-- How many connections there are: pending, lent and available together (CMAP, totalConnectionCount).
abbrev pub total : Pool → ℕ
total p = length p.pending + length p.lent + length p.available

-- A connection's generation is not the pool's (CMAP, Connection is stale).
abbrev pub is_stale : (of_pool of_conn : ℕ) → Bool
is_stale of_pool of_conn = not (of_conn == of_pool)

-- A connection that is available since a moment has been so for longer than the rules allow, where they limit it (CMAP,
-- Connection is idle).
abbrev pub is_idle : PoolRules → (since moment : ℕ) → Bool
is_idle r since moment = not (r.idle_micros == 0) && nat_lt (since + r.idle_micros) moment

-- An available connection is stale or idle (CMAP, a connection is perished).
abbrev pub is_perished : Pool → ℕ → Available → Bool
is_perished p moment a = is_stale p.generation a.generation || is_idle p.rules a.since moment

-- No available connection has perished, so that a sweep finds nothing (CMAP, Checking Out a Connection).
abbrev pub is_swept : Pool → ℕ → Bool
is_swept p moment = not (list_any (is_perished p moment) p.available)

-- Why a perished connection is shut: the first reason that holds (CMAP, ConnectionClosedEvent).
abbrev pub perish_reason : (of_pool of_conn : ℕ) → CloseReason
perish_reason of_pool of_conn = if is_stale of_pool of_conn then Stale else Idle

-- Why a connection that does not come back in is shut: the first reason that holds (CMAP, Checking In a Connection).
abbrev pub shut_reason : PoolState → Bool → CloseReason
shut_reason s errored = if errored then Errored else (if is_closed s then PoolClosed else Stale)

-- A pending or lent connection is of no more use: the pool is closed, or its generation is not the connection's (CMAP,
-- Establishing a Connection, Checking In a Connection).
abbrev pub is_worthless : PoolState → (of_pool of_conn : ℕ) → Bool
is_worthless s of_pool of_conn = is_closed s || is_stale of_pool of_conn

-- A lent connection is available again once it is checked in: it did not fail, the pool is not closed, and the
-- generation is the pool's (CMAP, Checking In a Connection).
abbrev pub is_kept : Pool → Bool → Held → Bool
is_kept p errored h = not errored && not (is_worthless p.state p.generation h.generation)

-- A ticket gets nothing in a pool that is not closed: the pool is paused, or its generation exceeds the ticket's
-- (CMAP, PoolClearedError).
abbrev pub is_cleared : PoolState → (of_pool of_ticket : ℕ) → Bool
is_cleared s of_pool of_ticket = is_paused s || nat_lt of_ticket of_pool

-- A ticket that entered at a moment has waited as long as the rules allow, where they limit it (CMAP,
-- waitQueueTimeoutMS).
abbrev pub is_late : PoolRules → (entered moment : ℕ) → Bool
is_late r entered moment = not (r.wait_micros == 0) && nat_le (entered + r.wait_micros) moment

-- A ticket is served: the pool is ready, the ticket's generation current, its number the first of the line, and no
-- available connection has perished (CMAP, Checking Out a Connection).
abbrev pub is_served : Pool → ℕ → Ticket → Bool
is_served p moment t =
    is_ready p.state && not (is_cleared p.state p.generation t.generation) && is_first (numbers_of p.waiting) t.number && is_swept p moment

-- There is room to dial, where there are so many connections and so many of them are pending: all are fewer than the
-- greatest size, and the pending ones fewer than maxConnecting (CMAP, Checking Out a Connection).
abbrev pub may_dial : PoolRules → (all pending : ℕ) → Bool
may_dial r all pending = nat_lt all r.max_size && nat_lt pending r.max_connecting

-- The same of a pool (CMAP, Checking Out a Connection).
abbrev pub has_room : Pool → Bool
has_room p = may_dial p.rules (total p) (length p.pending)

-- A ticket may have a connection or dial one: it is served, and one is available or there is room to dial (CMAP,
-- Checking Out a Connection).
abbrev pub can_take : Pool → ℕ → Ticket → Bool
can_take p moment t = is_served p moment t && (nat_lt 0 (length p.available) || has_room p)
