-- A command that is too large for its server (MongoDB, Limits: maxBsonObjectSize).
use Rattle.std.specs.Prelude.{pos, true, false, List, [], ◌∷◌, Some}
use Rattle.hello_reply.specs.declared.server_description.ServerDescription.{ServerDescription}
use Rattle.entry_judge.specs.declared.timed.Timed.{Timed}
use Rattle.desk_trail.specs.Facts.{Fact}
use Rattle.trail_worked.specs.Words.{at, check_hello, greeting}
use Rattle.topo_rules.specs.declared.event.TopoEvent.TheVariants as event
use Rattle.write_retry.specs.declared.attempt_end.AttemptEnd.TheVariants as attempt
use Rattle.write_retry.specs.declared.events.Unsent.TheVariants as unsent
use Rattle.write_retry.specs.declared.outcome.Outcome.TheVariants as outcome
use Rattle.desk_trail.specs.declared.entry.CheckHow.TheVariants as check
use Rattle.desk_trail.specs.declared.entry.LookedHow.TheVariants as looked
use Rattle.desk_trail.specs.declared.entry.OfferedHow.TheVariants as offered
use Rattle.desk_trail.specs.Facts as fact
use Rattle.trail_worked.specs.OneInsert.{alone, standalone}

-- The server says that it takes documents of at most four bytes, fewer than an empty one has.
abbrev pub small : ServerDescription
small = record standalone { max_doc = 4 }

abbrev pub too_large : List (Timed Fact)
too_large =
    at 0 (fact.Named 0 alone)  -- 0: the seed is named
    ∷ at 0 (fact.CheckBegan 0 1)  -- 1: its first check begins at once, on stream 1
    ∷ at 0 (fact.Asked 0 (check_hello 0 1 (pos 1)))  -- 2: with a hello
    ∷ at 100 (fact.CheckEnded 0 (check.Reply 100))  -- 3: the reply comes after 100 microseconds
    ∷ at 100 (fact.Offered 0 (event.Reply small 100) (offered.Accepted true))  -- 4: the topology takes it in, and is Single
    ∷ at 100 (fact.PoolReady 0)  -- 5: so the pool is made ready
    ∷ at 200 (fact.Looked 0 7 8 (0 ∷ []) (looked.Chosen 0))  -- 6: the insert chooses the server
    ∷ at 200 (fact.Entered 0 0 0)  -- 7: and asks the pool for a connection
    ∷ at 200 (fact.Dialled 0 0 1 (Some 2))  -- 8: it dials one
    ∷ at 200 (fact.Asked 1 (greeting 0 1 2 (pos 2)))  -- 9: which says hello
    ∷ at 300 (fact.Settled 0 0 1 false)  -- 10: the hello is answered
    ∷ at 300 (fact.Lent 0 0 1)  -- 11: the insert has the connection
    ∷ at 300 (fact.Ended 0 (attempt.Unsent (unsent.TooLarge 5 4)))  -- 12: its document has 5 bytes, and the server takes 4
    ∷ at 300 (fact.CheckedIn 0 0 1 false)  -- 13: the connection is given back as it was
    ∷ at 300 (fact.Finished 0 (outcome.TooLarge 5 4))  -- 14: and the insert is answered
    ∷ []
