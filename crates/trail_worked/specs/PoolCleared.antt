-- A pool that is cleared while a command waits, a connection is made, and another one is lent (CMAP, Clearing a Connection Pool;
-- SDAM, Error handling).
use Rattle.std.specs.Prelude.{pos, true, false, List, [], ◌∷◌, None, Some, codes}
use Rattle.conn_uri.specs.Configurations.{plain_configuration}
use Rattle.entry_judge.specs.declared.timed.Timed.{Timed}
use Rattle.desk_trail.specs.Clients.{Client}
use Rattle.desk_trail.specs.Facts.{Fact}
use Rattle.trail_worked.specs.Words.{at, client_with, an_insert, check_hello, next_hello, greeting, command_request, wrote_one}
use Rattle.topo_rules.specs.declared.event.TopoEvent.TheVariants as event
use Rattle.pool_book.specs.declared.answers.CloseReason.TheVariants as reason
use Rattle.write_retry.specs.declared.attempt_end.AttemptEnd.TheVariants as attempt
use Rattle.write_retry.specs.declared.events.Unsent.TheVariants as unsent
use Rattle.write_retry.specs.declared.outcome.Outcome.TheVariants as outcome
use Rattle.desk_trail.specs.declared.entry.CheckHow.TheVariants as check
use Rattle.desk_trail.specs.declared.entry.LookedHow.TheVariants as looked
use Rattle.desk_trail.specs.declared.entry.OfferedHow.TheVariants as offered
use Rattle.desk_trail.specs.Facts as fact
use Rattle.trail_worked.specs.OneInsert.{alone, standalone, insert_bytes}

-- A client of the standalone server with three inserts, whose pools make one connection at a time.
abbrev pub client_of_cleared : Client
client_of_cleared =
    client_with (record (plain_configuration (alone ∷ []) None (codes "test")) { max_connecting = 1 }) (an_insert ∷ an_insert ∷ an_insert ∷ [])

abbrev pub pool_cleared : List (Timed Fact)
pool_cleared =
    at 0 (fact.Named 0 alone)  -- 0: the seed is named
    ∷ at 0 (fact.CheckBegan 0 1)  -- 1: its first check begins at once, on stream 1
    ∷ at 0 (fact.Asked 0 (check_hello 0 1 (pos 1)))  -- 2: with a hello
    ∷ at 100 (fact.CheckEnded 0 (check.Reply 100))  -- 3: the reply comes after 100 microseconds
    ∷ at 100 (fact.Offered 0 (event.Reply standalone 100) (offered.Accepted true))  -- 4: the topology takes it in, and is Single
    ∷ at 100 (fact.PoolReady 0)  -- 5: so the pool is made ready
    ∷ at 200 (fact.Looked 0 7 8 (0 ∷ []) (looked.Chosen 0))  -- 6: the first insert chooses the server
    ∷ at 200 (fact.Entered 0 0 0)  -- 7: and asks the pool for a connection
    ∷ at 200 (fact.Dialled 0 0 1 (Some 2))  -- 8: it dials one
    ∷ at 200 (fact.Asked 1 (greeting 0 1 2 (pos 2)))  -- 9: which says hello
    ∷ at 300 (fact.Settled 0 0 1 false)  -- 10: the hello is answered
    ∷ at 300 (fact.Lent 0 0 1)  -- 11: the first insert has the connection
    ∷ at 300 (fact.Asked 2 (command_request 0 2 (pos 3) (insert_bytes (pos 3))))  -- 12: and goes out
    ∷ at 400 (fact.Looked 1 7 8 (0 ∷ []) (looked.Chosen 0))  -- 13: the second insert chooses the server
    ∷ at 400 (fact.Entered 1 0 1)  -- 14: and asks the pool for a connection
    ∷ at 400 (fact.Dialled 1 0 2 (Some 3))  -- 15: it dials another one
    ∷ at 400 (fact.Asked 3 (greeting 0 2 3 (pos 4)))  -- 16: which says hello
    ∷ at 500 (fact.Looked 2 7 8 (0 ∷ []) (looked.Chosen 0))  -- 17: the third insert chooses the server
    ∷ at 500 (fact.Entered 2 0 2)  -- 18: and waits, since only one connection is made at a time
    ∷ at 10000100 (fact.CheckBegan 0 1)  -- 19: ten seconds behind the first check the next one begins, on the same stream
    ∷ at 10000100 (fact.Asked 4 (next_hello 0 1 (pos 5)))  -- 20: with a hello
    ∷ at 10000200 (fact.CheckEnded 0 check.Cut)  -- 21: the server ends the stream
    ∷ at 10000200 (fact.Offered 1 (event.Broken alone None) (offered.Accepted true))  -- 22: so it is unknown
    ∷ at 10000200 (fact.PoolClear 0)  -- 23: and its pool is cleared
    ∷ at 10000300 (fact.NotLent 2 0 (unsent.PoolCleared 1))  -- 24: the third insert gets no connection
    ∷ at 10000300 (fact.Ended 2 (attempt.Unsent (unsent.PoolCleared 1)))  -- 25: its attempt ends
    ∷ at 10000300 (fact.Finished 2 (outcome.PoolCleared 1))  -- 26: and it is answered
    ∷ at 10000400 (fact.Settled 1 0 2 true)  -- 27: the hello of the second connection is answered, of the generation ahead of the clear
    ∷ at 10000400 (fact.ConnShut 0 2 reason.Stale)  -- 28: the connection is shut
    ∷ at 10000400 (fact.NotLent 1 0 (unsent.PoolCleared 1))  -- 29: and the second insert gets none
    ∷ at 10000400 (fact.Ended 1 (attempt.Unsent (unsent.PoolCleared 1)))  -- 30: its attempt ends
    ∷ at 10000400 (fact.Finished 1 (outcome.PoolCleared 1))  -- 31: and it is answered
    ∷ at 10000500 (fact.Ended 0 (attempt.Replied wrote_one))  -- 32: the first insert was done
    ∷ at 10000500 (fact.CheckedIn 0 0 1 false)  -- 33: it gives its connection back
    ∷ at 10000500 (fact.ConnShut 0 1 reason.Stale)  -- 34: which is of the old generation, and is shut
    ∷ at 10000500 (fact.Finished 0 (outcome.Ok (pos 1) (pos 0)))  -- 35: the first insert is answered
    ∷ []
