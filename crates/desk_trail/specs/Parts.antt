-- The parts of a trail: the entries of one host's pool, of the sessions and of one command, and the events that were accepted.
use Rattle.std.specs.Prelude.{ℕ, ◌==◌, List, [], ◌∷◌, ◌++◌, Option, None, Some, flat_map, if◌then◌else◌}
use Rattle.entry_judge.specs.declared.timed.Timed.{Timed}
use Rattle.pool_book.specs.Entries.{PoolEntry}
use Rattle.sess_book.specs.Entries.{SessEntry}
use Rattle.topo_rules.specs.declared.event.TopoEvent.{TopoEvent}
use Rattle.write_retry.specs.declared.events.OpEvent.{OpEvent}
use Rattle.desk_trail.specs.declared.entry.OfferedHow.TheVariants as offered
use Rattle.desk_trail.specs.Attempts.{OfCommand, command_step}
use Rattle.desk_trail.specs.Clients.{Client}
use Rattle.desk_trail.specs.Facts.{Fact}
use Rattle.desk_trail.specs.Facts as fact
use Rattle.desk_trail.specs.Leases.{session_held}
use Rattle.desk_trail.specs.Legal.{Point, beginning, point_after}
use Rattle.desk_trail.specs.Pools.{OfHost, pool_step}
use Rattle.desk_trail.specs.States.{ClientState}

-- What each entry of a trail tells, by the point at which it stands, from a point on.
abbrev pub told_from : {A : Type 0} → Client → (Point → Timed Fact → List A) → Point → List (Timed Fact) → List A
told_from client tells p [] = []
told_from client tells p (t ∷ ts) = tells p t ++ told_from client tells (point_after client p t) ts

-- From the beginning on.
abbrev pub told : {A : Type 0} → Client → (Point → Timed Fact → List A) → List (Timed Fact) → List A
told client tells ts = told_from client tells (beginning client) ts

-- ---- Pools

-- The entry of the pool of a host, with its moment (CMAP, Events).
abbrev pub of_pool : ℕ → ℕ → Option OfHost → List (Timed PoolEntry)
of_pool host moment None = []
of_pool host moment (Some e) = if e.0 == host then record { at = moment; what = e.1 } ∷ [] else []

abbrev pub pool_tells : ℕ → Point → Timed Fact → List (Timed PoolEntry)
pool_tells host p t = of_pool host t.at (pool_step p.state t.what)

-- All that happened in the pool of a host.
abbrev pub pool_part : Client → ℕ → List (Timed Fact) → List (Timed PoolEntry)
pool_part client host ts = told client (pool_tells host) ts

-- ---- The topology

-- The event of an entry that says it was taken in (SDAM, Updating the TopologyDescription).
abbrev pub accepted_in : Fact → List TopoEvent
accepted_in (fact.Offered place event (offered.Accepted differs)) = event ∷ []
accepted_in f = []

-- All events that were taken in, in order.
abbrev pub accepted_of : List (Timed Fact) → List TopoEvent
accepted_of ts = flat_map (λ t. accepted_in t.what) ts

-- ---- Sessions

-- The entry of the sessions that an entry is (Driver Sessions).
abbrev pub session_step : ClientState → Fact → Option SessEntry
session_step w (fact.Leased op place lsid fresh) = session_held w op (fact.Leased op place lsid fresh)
session_step w (fact.Drew op number) = session_held w op (fact.Drew op number)
session_step w (fact.Returned op dirty kept) = session_held w op (fact.Returned op dirty kept)
session_step w f = None

abbrev pub of_sessions : ℕ → Option SessEntry → List (Timed SessEntry)
of_sessions moment None = []
of_sessions moment (Some e) = record { at = moment; what = e } ∷ []

abbrev pub session_tells : Point → Timed Fact → List (Timed SessEntry)
session_tells p t = of_sessions t.at (session_step p.state t.what)

-- All that happened to the sessions.
abbrev pub session_part : Client → List (Timed Fact) → List (Timed SessEntry)
session_part client ts = told client session_tells ts

-- ---- Commands

-- The event of a command (Retryable Writes, Executing Retryable Write Commands).
abbrev pub of_command : ℕ → Option OfCommand → List OpEvent
of_command op None = []
of_command op (Some e) = if e.0 == op then e.1 ∷ [] else []

abbrev pub command_tells : Client → ℕ → Point → Timed Fact → List OpEvent
command_tells client op p t = of_command op (command_step client p.state t.what)

-- All that happened to a command.
abbrev pub events_of : Client → ℕ → List (Timed Fact) → List OpEvent
events_of client op ts = told client (command_tells client op) ts
