-- Commands one after another over one connection: the pool may have one, and its line is served in order (CMAP, Checking Out a
-- Connection, WaitQueue, maxPoolSize).
use Rattle.std.specs.Prelude.{pos, true, false, List, [], ◌∷◌, None, Some, codes}
use Rattle.conn_uri.specs.Configurations.{plain_configuration}
use Rattle.entry_judge.specs.declared.timed.Timed.{Timed}
use Rattle.desk_trail.specs.Clients.{Client}
use Rattle.desk_trail.specs.Facts.{Fact}
use Rattle.trail_worked.specs.Words.{at, client_with, an_insert, check_hello, greeting, command_request, wrote_one}
use Rattle.topo_rules.specs.declared.event.TopoEvent.TheVariants as event
use Rattle.write_retry.specs.declared.attempt_end.AttemptEnd.TheVariants as attempt
use Rattle.write_retry.specs.declared.outcome.Outcome.TheVariants as outcome
use Rattle.desk_trail.specs.declared.entry.CheckHow.TheVariants as check
use Rattle.desk_trail.specs.declared.entry.LookedHow.TheVariants as looked
use Rattle.desk_trail.specs.declared.entry.OfferedHow.TheVariants as offered
use Rattle.desk_trail.specs.Facts as fact
use Rattle.trail_worked.specs.OneInsert.{alone, standalone, insert_bytes}

-- A client of the standalone server with three inserts and pools of one connection.
abbrev pub client_of_three : Client
client_of_three = client_with (record (plain_configuration (alone ∷ []) None (codes "test")) { max_pool = 1 }) (an_insert ∷ an_insert ∷ an_insert ∷ [])

abbrev pub lent_again : List (Timed Fact)
lent_again =
    at 0 (fact.Named 0 alone)  -- 0: the seed is named
    ∷ at 0 (fact.CheckBegan 0 1)  -- 1: its first check begins at once, on stream 1
    ∷ at 0 (fact.Asked 0 (check_hello 0 1 (pos 1)))  -- 2: with a hello
    ∷ at 100 (fact.CheckEnded 0 (check.Reply 100))  -- 3: the reply comes after 100 microseconds
    ∷ at 100 (fact.Offered 0 (event.Reply standalone 100) (offered.Accepted true))  -- 4: the topology takes it in, and is Single
    ∷ at 100 (fact.PoolReady 0)  -- 5: so the pool is made ready
    ∷ at 200 (fact.Looked 0 7 8 (0 ∷ []) (looked.Chosen 0))  -- 6: the first insert chooses the server
    ∷ at 200 (fact.Entered 0 0 0)  -- 7: and asks the pool for a connection
    ∷ at 200 (fact.Dialled 0 0 1 (Some 2))  -- 8: it dials the only one that the pool may have
    ∷ at 200 (fact.Asked 1 (greeting 0 1 2 (pos 2)))  -- 9: which says hello
    ∷ at 250 (fact.Looked 1 7 8 (0 ∷ []) (looked.Chosen 0))  -- 10: the second insert chooses the server
    ∷ at 250 (fact.Entered 1 0 1)  -- 11: and waits
    ∷ at 260 (fact.Looked 2 7 8 (0 ∷ []) (looked.Chosen 0))  -- 12: so does the third one
    ∷ at 260 (fact.Entered 2 0 2)  -- 13: behind the second
    ∷ at 300 (fact.Settled 0 0 1 false)  -- 14: the hello is answered
    ∷ at 300 (fact.Lent 0 0 1)  -- 15: the first insert has the connection
    ∷ at 300 (fact.Asked 2 (command_request 0 2 (pos 3) (insert_bytes (pos 3))))  -- 16: and goes out
    ∷ at 400 (fact.Ended 0 (attempt.Replied wrote_one))  -- 17: it was done
    ∷ at 400 (fact.CheckedIn 0 0 1 false)  -- 18: and gives the connection back
    ∷ at 400 (fact.Finished 0 (outcome.Ok (pos 1) (pos 0)))  -- 19: it is answered
    ∷ at 410 (fact.Lent 1 0 1)  -- 20: the second insert has the same connection
    ∷ at 410 (fact.Asked 3 (command_request 1 2 (pos 4) (insert_bytes (pos 4))))  -- 21: and goes out on the same stream
    ∷ at 500 (fact.Ended 1 (attempt.Replied wrote_one))  -- 22: it was done
    ∷ at 500 (fact.CheckedIn 1 0 1 false)  -- 23: and gives the connection back
    ∷ at 500 (fact.Finished 1 (outcome.Ok (pos 1) (pos 0)))  -- 24: it is answered; the third one waits still
    ∷ []
