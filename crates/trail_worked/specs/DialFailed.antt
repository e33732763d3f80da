-- A dial that fails (CMAP, Establishing a Connection; SDAM, Error handling: network error before the handshake completes).
use Rattle.std.specs.Prelude.{pos, true, false, List, [], ◌∷◌, None, Some}
use Rattle.entry_judge.specs.declared.timed.Timed.{Timed}
use Rattle.desk_trail.specs.Facts.{Fact}
use Rattle.trail_worked.specs.Words.{at, check_hello}
use Rattle.topo_rules.specs.declared.event.TopoEvent.TheVariants as event
use Rattle.pool_book.specs.declared.answers.CloseReason.TheVariants as reason
use Rattle.write_retry.specs.declared.attempt_end.AttemptEnd.TheVariants as attempt
use Rattle.write_retry.specs.declared.events.Unsent.TheVariants as unsent
use Rattle.write_retry.specs.declared.outcome.Outcome.TheVariants as outcome
use Rattle.desk_trail.specs.declared.entry.CheckHow.TheVariants as check
use Rattle.desk_trail.specs.declared.entry.LookedHow.TheVariants as looked
use Rattle.desk_trail.specs.declared.entry.OfferedHow.TheVariants as offered
use Rattle.desk_trail.specs.Facts as fact
use Rattle.trail_worked.specs.OneInsert.{alone, standalone}

abbrev pub dial_failed : List (Timed Fact)
dial_failed =
    at 0 (fact.Named 0 alone)  -- 0: the seed is named
    ∷ at 0 (fact.CheckBegan 0 1)  -- 1: its first check begins at once, on stream 1
    ∷ at 0 (fact.Asked 0 (check_hello 0 1 (pos 1)))  -- 2: with a hello
    ∷ at 100 (fact.CheckEnded 0 (check.Reply 100))  -- 3: the reply comes after 100 microseconds
    ∷ at 100 (fact.Offered 0 (event.Reply standalone 100) (offered.Accepted true))  -- 4: the topology takes it in, and is Single
    ∷ at 100 (fact.PoolReady 0)  -- 5: so the pool is made ready
    ∷ at 200 (fact.Looked 0 7 8 (0 ∷ []) (looked.Chosen 0))  -- 6: the insert chooses the server
    ∷ at 200 (fact.Entered 0 0 0)  -- 7: and asks the pool for a connection
    ∷ at 200 (fact.Dialled 0 0 1 None)  -- 8: it dials one, and the dial fails
    ∷ at 200 (fact.NotLent 0 0 (unsent.Dial false))  -- 9: so it gets none
    ∷ at 200 (fact.Ended 0 (attempt.Unsent (unsent.Dial false)))  -- 10: its attempt ends
    ∷ at 200 (fact.ConnShut 0 1 reason.Errored)  -- 11: the connection is shut
    ∷ at 200 (fact.Offered 1 (event.Broken alone (Some 0)) (offered.Accepted true))  -- 12: the server is unknown
    ∷ at 200 (fact.PoolClear 0)  -- 13: and its pool is cleared
    ∷ at 200 (fact.Finished 0 outcome.Network)  -- 14: the insert drew no number, so it is answered
    ∷ []
