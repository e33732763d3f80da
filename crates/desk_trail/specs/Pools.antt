-- A client's pools: which entry of its pool an entry of the trail is.
use Rattle.std.specs.Prelude.{◌≡◌, ℕ, ◌&&◌, ◌==◌, List, [], ◌∷◌, Option, None, Some, map, slice_get, if◌then◌else◌}
use Rattle.std.specs.Option.{option_map, option_and_then}
use Rattle.entry_judge.specs.Groups as judge
use Rattle.pool_book.specs.Pool.{Pool}
use Rattle.pool_book.specs.Entries as pool
use Rattle.pool_book.specs.Entries.{PoolEntry, owes}
use Rattle.pool_book.specs.Judge.{pool_judge}
use Rattle.write_retry.specs.declared.events.Unsent.{Unsent}
use Rattle.write_retry.specs.declared.events.Unsent.TheVariants as unsent
use Rattle.desk_trail.specs.States.{ClientState, ServerState, CommandState, CheckOut, Nothing, Waits, Dials, Has, with_server, with_command}
use Rattle.desk_trail.specs.Facts.{Fact}
use Rattle.desk_trail.specs.Facts as fact
use Rattle.desk_trail.specs.Owed.{Owed}
use Rattle.desk_trail.specs.Owed as owed

-- An entry of the pool of that host.
abbrev pub OfHost : Type 0
OfHost = ℕ × PoolEntry

-- The number under which the host's pool knows the command: its ticket, which its connections keep (CMAP, WaitQueue).
abbrev pub ticket_with : ℕ → CheckOut → Option ℕ
ticket_with x Nothing = None
ticket_with x (Waits host ticket) = if host == x then Some ticket else None
ticket_with x (Dials host ticket conn) = if host == x then Some ticket else None
ticket_with x (Has host ticket conn) = if host == x then Some ticket else None

-- The same where it dialled that connection, and where that connection is lent to it.
abbrev pub ticket_dialling : ℕ → ℕ → CheckOut → Option ℕ
ticket_dialling x n (Dials host ticket conn) = if host == x && conn == n then Some ticket else None
ticket_dialling x n _ = None

abbrev pub ticket_having : ℕ → ℕ → CheckOut → Option ℕ
ticket_having x n (Has host ticket conn) = if host == x && conn == n then Some ticket else None
ticket_having x n _ = None

-- A connection that the command dialled was lost.
abbrev pub lost_with : ℕ → CheckOut → Option PoolEntry
lost_with x (Dials host ticket conn) = if host == x then Some (pool.NotLent ticket (pool.Lost conn)) else None
lost_with x _ = None

-- Why the command gets no connection, in the pool's words (CMAP, ConnectionCheckOutFailedEvent).
abbrev pub not_lent_with : ℕ → Unsent → CheckOut → Option PoolEntry
not_lent_with x unsent.PoolLate h = option_map (λ t. pool.NotLent t pool.Late) (ticket_with x h)
not_lent_with x (unsent.PoolCleared generation) h = option_map (λ t. pool.NotLent t (pool.Cleared generation)) (ticket_with x h)
not_lent_with x (unsent.PoolClosed host) h =
    if host == x then option_map (λ t. pool.NotLent t pool.Closed) (ticket_with x h) else None
not_lent_with x (unsent.Dial bad) h = lost_with x h
not_lent_with x (unsent.Greeting code) h = lost_with x h
not_lent_with x (unsent.TooLarge size most) h = None

-- What a command holds.
abbrev pub check_out_of : ClientState → ℕ → Option CheckOut
check_out_of w op = option_map (λ c. c.check_out) (slice_get w.commands op)

abbrev pub at_host : ℕ → Option PoolEntry → Option OfHost
at_host host None = None
at_host host (Some e) = Some (host, e)

-- The entry of its host's pool that an entry of the trail is, where it is one of a pool and the command is as the entry says:
-- a command is known to a pool by its ticket (CMAP, Events).
abbrev pub pool_step : ClientState → Fact → Option OfHost
pool_step w (fact.PoolReady host) = Some (host, pool.Ready)
pool_step w (fact.PoolClear host) = Some (host, pool.Clear)
pool_step w (fact.PoolShut host) = Some (host, pool.Shut)
pool_step w (fact.Entered op host ticket) = Some (host, pool.Entered ticket)
pool_step w (fact.Lent op host conn) =
    at_host host (option_map (λ t. pool.Lent t conn) (option_and_then (ticket_with host) (check_out_of w op)))
pool_step w (fact.Dialled op host conn stream) =
    at_host host (option_map (λ t. pool.Dialled t conn) (option_and_then (ticket_with host) (check_out_of w op)))
pool_step w (fact.Settled op host conn stale) =
    at_host host (option_map (λ t. pool.Settled t conn stale) (option_and_then (ticket_dialling host conn) (check_out_of w op)))
pool_step w (fact.NotLent op host why) = at_host host (option_and_then (not_lent_with host why) (check_out_of w op))
pool_step w (fact.CheckedIn op host conn errored) =
    at_host host (option_map (λ t. pool.CheckedIn t conn errored) (option_and_then (ticket_having host conn) (check_out_of w op)))
pool_step w (fact.ConnShut host conn reason) = Some (host, pool.ConnShut conn reason)
pool_step w _ = None

-- An entry of a pool stands at that pool's place: where it must come next there, or where none must and it may (CMAP,
-- Connection Pool).
abbrev pub PoolAllows : ClientState → ℕ → Option OfHost → Type 0
PoolAllows w moment None = ⊥
PoolAllows w moment (Some e) =
    (s : ServerState) × (slice_get w.servers e.0 ≡ Some s) × judge.Stands pool_judge s.pool (record { at = moment; what = e.1 })

-- The pool behind it.
abbrev pub with_pool : ℕ → PoolEntry → ServerState → ServerState
with_pool moment e s = record s { pool = judge.next_place pool_judge s.pool (record { at = moment; what = e }) }

abbrev pub pools_after : ClientState → ℕ → Option OfHost → ClientState
pools_after w moment None = w
pools_after w moment (Some e) = with_server w e.0 (with_pool moment e.1)

-- What must come next of the pool: all that the entry owes, unless it was owed itself.
abbrev pub owed_in : ℕ → List PoolEntry → Pool → PoolEntry → List Owed
owed_in host [] p e = map (λ d. owed.OfPool host) (owes p e)
owed_in host (d ∷ ds) p e = []

abbrev pub owed_of : ℕ → Option ServerState → PoolEntry → List Owed
owed_of host None e = []
owed_of host (Some s) e = owed_in host s.pool.owed s.pool.state e

abbrev pub pool_owes : ClientState → Option OfHost → List Owed
pool_owes w None = []
pool_owes w (Some e) = owed_of e.0 (slice_get w.servers e.0) e.1

-- ---- What the command holds behind it

abbrev pub waits_now : ℕ → ℕ → CommandState → CommandState
waits_now host ticket c = record c { check_out = Waits host ticket }

abbrev pub dials_by : ℕ → CheckOut → CheckOut
dials_by conn (Waits host ticket) = Dials host ticket conn
dials_by conn h = h

-- A connection is dialled at a moment.
abbrev pub dials_now : ℕ → ℕ → CommandState → CommandState
dials_now moment conn c = record c { check_out = dials_by conn c.check_out; dialled = Some moment }

abbrev pub has_by : ℕ → CheckOut → CheckOut
has_by conn (Waits host ticket) = Has host ticket conn
has_by conn (Dials host ticket n) = Has host ticket conn
has_by conn h = h

abbrev pub check_out_after : ℕ → ClientState → Fact → ClientState
check_out_after moment w (fact.Entered op host ticket) = with_command w op (waits_now host ticket)
check_out_after moment w (fact.Lent op host conn) = with_command w op (λ c. record c { check_out = has_by conn c.check_out })
check_out_after moment w (fact.Dialled op host conn stream) = with_command w op (dials_now moment conn)
check_out_after moment w (fact.NotLent op host why) = with_command w op (λ c. record c { check_out = Nothing })
check_out_after moment w (fact.CheckedIn op host conn errored) = with_command w op (λ c. record c { check_out = Nothing })
check_out_after moment w f = w

-- ---- Streams

-- The stream of a new connection.
abbrev pub conn_streams_after : ClientState → Fact → ClientState
conn_streams_after w (fact.Dialled op host conn (Some stream)) =
    with_server (record w { streams = stream ∷ w.streams }) host (λ s. record s { conn_streams = record { conn = conn; stream = stream } ∷ s.conn_streams })
conn_streams_after w f = w
