-- A connection whose pool was cleared, and made ready again, before its greeting was answered (CMAP, Establishing a Connection;
-- Server Monitoring, Network or command error during server check).
use Rattle.std.specs.Prelude.{pos, true, List, [], ◌∷◌, None, Some}
use Rattle.entry_judge.specs.declared.timed.Timed.{Timed}
use Rattle.desk_trail.specs.Facts.{Fact}
use Rattle.trail_worked.specs.Words.{at, check_hello, next_hello, greeting}
use Rattle.topo_rules.specs.declared.event.TopoEvent.TheVariants as event
use Rattle.pool_book.specs.declared.answers.CloseReason.TheVariants as reason
use Rattle.write_retry.specs.declared.attempt_end.AttemptEnd.TheVariants as attempt
use Rattle.write_retry.specs.declared.events.Unsent.TheVariants as unsent
use Rattle.write_retry.specs.declared.outcome.Outcome.TheVariants as outcome
use Rattle.desk_trail.specs.declared.entry.CheckHow.TheVariants as check
use Rattle.desk_trail.specs.declared.entry.LookedHow.TheVariants as looked
use Rattle.desk_trail.specs.declared.entry.OfferedHow.TheVariants as offered
use Rattle.desk_trail.specs.Facts as fact
use Rattle.trail_worked.specs.OneInsert.{alone, standalone}

abbrev pub stale_greeting : List (Timed Fact)
stale_greeting =
    at 0 (fact.Named 0 alone)  -- 0: the seed is named
    ∷ at 0 (fact.CheckBegan 0 1)  -- 1: its first check begins at once, on stream 1
    ∷ at 0 (fact.Asked 0 (check_hello 0 1 (pos 1)))  -- 2: with a hello
    ∷ at 100 (fact.CheckEnded 0 (check.Reply 100))  -- 3: the reply comes after 100 microseconds
    ∷ at 100 (fact.Offered 0 (event.Reply standalone 100) (offered.Accepted true))  -- 4: the topology takes it in, and is Single
    ∷ at 100 (fact.PoolReady 0)  -- 5: so the pool is made ready
    ∷ at 9999900 (fact.Looked 0 7 8 (0 ∷ []) (looked.Chosen 0))  -- 6: the insert chooses the server
    ∷ at 9999900 (fact.Entered 0 0 0)  -- 7: and asks the pool for a connection
    ∷ at 9999900 (fact.Dialled 0 0 1 (Some 2))  -- 8: it dials one
    ∷ at 9999900 (fact.Asked 1 (greeting 0 1 2 (pos 2)))  -- 9: which says hello
    ∷ at 10000100 (fact.CheckBegan 0 1)  -- 10: the next check begins, on the same stream
    ∷ at 10000100 (fact.Asked 2 (next_hello 0 1 (pos 3)))  -- 11: with a hello
    ∷ at 10000200 (fact.CheckEnded 0 check.Cut)  -- 12: the server ends the stream
    ∷ at 10000200 (fact.Offered 1 (event.Broken alone None) (offered.Accepted true))  -- 13: so it is unknown
    ∷ at 10000200 (fact.PoolClear 0)  -- 14: and its pool is cleared
    ∷ at 10000200 (fact.CheckBegan 0 3)  -- 15: it was known, so the next check begins at once, on a new stream
    ∷ at 10000200 (fact.Asked 3 (check_hello 0 3 (pos 4)))  -- 16: with a first hello
    ∷ at 10000300 (fact.CheckEnded 0 (check.Reply 100))  -- 17: the reply comes
    ∷ at 10000300 (fact.Offered 2 (event.Reply standalone 100) (offered.Accepted true))  -- 18: the server is known again
    ∷ at 10000300 (fact.PoolReady 0)  -- 19: and its pool is ready again, in the next generation
    ∷ at 10000400 (fact.Settled 0 0 1 true)  -- 20: the greeting of the connection is answered, of the generation ahead of the clear
    ∷ at 10000400 (fact.ConnShut 0 1 reason.Stale)  -- 21: so the connection is shut
    ∷ at 10000400 (fact.NotLent 0 0 (unsent.PoolCleared 1))  -- 22: and the insert gets none
    ∷ at 10000400 (fact.Ended 0 (attempt.Unsent (unsent.PoolCleared 1)))  -- 23: its attempt ends
    ∷ at 10000400 (fact.Finished 0 (outcome.PoolCleared 1))  -- 24: it drew no number, so it is answered
    ∷ []
