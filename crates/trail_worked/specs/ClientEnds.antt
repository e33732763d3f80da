-- The end of a client: its session is ended, its pool closed, and the connection of it shut (Driver Sessions, endSessions; CMAP,
-- Closing a Connection Pool).
use Rattle.std.specs.Prelude.{pos, true, false, List, [], ◌∷◌, None, Some, codes}
use Rattle.conn_uri.specs.Configurations.{plain_configuration}
use Rattle.entry_judge.specs.declared.timed.Timed.{Timed}
use Rattle.desk_trail.specs.Clients.{Client}
use Rattle.desk_trail.specs.Facts.{Fact}
use Rattle.trail_worked.specs.Words.{at, client_with, an_insert, check_hello, greeting, command_request, wrote_one, farewell}
use Rattle.topo_rules.specs.declared.event.TopoEvent.TheVariants as event
use Rattle.pool_book.specs.declared.answers.CloseReason.TheVariants as reason
use Rattle.write_retry.specs.declared.attempt_end.AttemptEnd.TheVariants as attempt
use Rattle.write_retry.specs.declared.outcome.Outcome.TheVariants as outcome
use Rattle.desk_trail.specs.declared.entry.CheckHow.TheVariants as check
use Rattle.desk_trail.specs.declared.entry.LookedHow.TheVariants as looked
use Rattle.desk_trail.specs.declared.entry.OfferedHow.TheVariants as offered
use Rattle.desk_trail.specs.Facts as fact
use Rattle.trail_worked.specs.LeasedAgain.{router, mongos, session_id, numbered_bytes}

-- A client of the mongos with one insert, whose connections may be idle for a millisecond.
abbrev pub client_of_router : Client
client_of_router = client_with (record (plain_configuration (router ∷ []) None (codes "test")) { idle_ms = 1 }) (an_insert ∷ [])

abbrev pub client_ends : List (Timed Fact)
client_ends =
    at 0 (fact.Named 0 router)  -- 0: the seed is named
    ∷ at 0 (fact.CheckBegan 0 1)  -- 1: its first check begins at once, on stream 1
    ∷ at 0 (fact.Asked 0 (check_hello 0 1 (pos 1)))  -- 2: with a hello
    ∷ at 100 (fact.CheckEnded 0 (check.Reply 100))  -- 3: the reply comes after 100 microseconds
    ∷ at 100 (fact.Offered 0 (event.Reply mongos 100) (offered.Accepted true))  -- 4: the topology takes it in, and is Sharded
    ∷ at 100 (fact.PoolReady 0)  -- 5: so the pool is made ready
    ∷ at 200 (fact.Looked 0 7 8 (0 ∷ []) (looked.Chosen 0))  -- 6: the insert chooses the server
    ∷ at 200 (fact.Leased 0 0 session_id true)  -- 7: it leases a session
    ∷ at 200 (fact.Drew 0 (pos 1))  -- 8: and draws a number
    ∷ at 200 (fact.Entered 0 0 0)  -- 9: it asks the pool for a connection
    ∷ at 200 (fact.Dialled 0 0 1 (Some 2))  -- 10: and dials one
    ∷ at 200 (fact.Asked 1 (greeting 0 1 2 (pos 2)))  -- 11: which says hello
    ∷ at 300 (fact.Settled 0 0 1 false)  -- 12: the hello is answered
    ∷ at 300 (fact.Lent 0 0 1)  -- 13: it has the connection
    ∷ at 300 (fact.Asked 2 (command_request 0 2 (pos 3) (numbered_bytes (pos 3) (pos 1))))  -- 14: and goes out
    ∷ at 400 (fact.Ended 0 (attempt.Replied wrote_one))  -- 15: it was done
    ∷ at 400 (fact.CheckedIn 0 0 1 false)  -- 16: and gives the connection back
    ∷ at 400 (fact.Finished 0 (outcome.Ok (pos 1) (pos 0)))  -- 17: it is answered
    ∷ at 400 (fact.Returned 0 false true)  -- 18: and gives the session back
    ∷ at 500 (fact.Asked 3 (farewell 2 (pos 4) (session_id ∷ [])))  -- 19: the client ends: the connection in the pool carries the end of the session
    ∷ at 500 (fact.PoolShut 0)  -- 20: the pool is closed
    ∷ at 500 (fact.ConnShut 0 1 reason.PoolClosed)  -- 21: and its connection shut
    ∷ []
