-- A host that leaves the topology while a connection of its pool is lent (SDAM, updateRSFromPrimary; CMAP, Closing a Connection
-- Pool, Checking In a Connection).
use Rattle.std.specs.Prelude.{pos, true, false, List, [], ◌∷◌, Some}
use Rattle.hello_reply.specs.declared.server_description.ServerDescription.{ServerDescription}
use Rattle.entry_judge.specs.declared.timed.Timed.{Timed}
use Rattle.desk_trail.specs.Facts.{Fact}
use Rattle.trail_worked.specs.Words.{at, check_hello, greeting, command_request, wrote_one}
use Rattle.topo_rules.specs.declared.event.TopoEvent.TheVariants as event
use Rattle.pool_book.specs.declared.answers.CloseReason.TheVariants as reason
use Rattle.write_retry.specs.declared.attempt_end.AttemptEnd.TheVariants as attempt
use Rattle.write_retry.specs.declared.outcome.Outcome.TheVariants as outcome
use Rattle.desk_trail.specs.declared.entry.CheckHow.TheVariants as check
use Rattle.desk_trail.specs.declared.entry.LookedHow.TheVariants as looked
use Rattle.desk_trail.specs.declared.entry.OfferedHow.TheVariants as offered
use Rattle.desk_trail.specs.Facts as fact
use Rattle.trail_worked.specs.LeasedAgain.{session_id, numbered_bytes}
use Rattle.trail_worked.specs.Failover.{first, second, primary}

-- The other member is the primary of a set that has only itself.
abbrev pub primary_alone : ServerDescription
primary_alone = record (primary second) { listed = second ∷ [] }

abbrev pub host_dropped : List (Timed Fact)
host_dropped =
    at 0 (fact.Named 0 first)  -- 0: the seed is named
    ∷ at 0 (fact.CheckBegan 0 1)  -- 1: its first check begins
    ∷ at 0 (fact.Asked 0 (check_hello 0 1 (pos 1)))  -- 2: with a hello
    ∷ at 100 (fact.CheckEnded 0 (check.Reply 100))  -- 3: the reply comes
    ∷ at 100 (fact.Offered 0 (event.Reply (primary first) 100) (offered.Accepted true))  -- 4: the seed is the primary, and lists another host
    ∷ at 100 (fact.Named 1 second)  -- 5: which is named
    ∷ at 100 (fact.PoolReady 0)  -- 6: the pool of the primary is made ready
    ∷ at 300 (fact.Looked 0 7 8 (0 ∷ []) (looked.Chosen 0))  -- 7: the insert chooses the primary
    ∷ at 300 (fact.Leased 0 0 session_id true)  -- 8: it leases a session
    ∷ at 300 (fact.Drew 0 (pos 1))  -- 9: and draws a number
    ∷ at 300 (fact.Entered 0 0 0)  -- 10: it asks the pool for a connection
    ∷ at 300 (fact.Dialled 0 0 1 (Some 3))  -- 11: and dials one
    ∷ at 300 (fact.Asked 1 (greeting 0 1 3 (pos 2)))  -- 12: which says hello
    ∷ at 400 (fact.Settled 0 0 1 false)  -- 13: the hello is answered
    ∷ at 400 (fact.Lent 0 0 1)  -- 14: it has the connection
    ∷ at 400 (fact.Asked 2 (command_request 0 3 (pos 3) (numbered_bytes (pos 3) (pos 1))))  -- 15: and goes out
    ∷ at 500 (fact.CheckBegan 1 2)  -- 16: the first check of the other host begins
    ∷ at 500 (fact.Asked 3 (check_hello 1 2 (pos 4)))  -- 17: with a hello
    ∷ at 600 (fact.CheckEnded 1 (check.Reply 100))  -- 18: the reply comes
    ∷ at 600 (fact.Offered 1 (event.Reply primary_alone 100) (offered.Accepted true))  -- 19: it is the primary now, and lists only itself
    ∷ at 600 (fact.Dropped 0)  -- 20: so the first host is dropped
    ∷ at 600 (fact.PoolShut 0)  -- 21: and its pool is closed
    ∷ at 600 (fact.PoolReady 1)  -- 22: the pool of the new primary is made ready
    ∷ at 700 (fact.Ended 0 (attempt.Replied wrote_one))  -- 23: the insert was done by the first host
    ∷ at 700 (fact.CheckedIn 0 0 1 false)  -- 24: its connection is checked in
    ∷ at 700 (fact.ConnShut 0 1 reason.PoolClosed)  -- 25: and shut, since the pool is closed
    ∷ at 700 (fact.Finished 0 (outcome.Ok (pos 1) (pos 0)))  -- 26: the insert is answered
    ∷ at 700 (fact.Returned 0 false true)  -- 27: and gives its session back
    ∷ []
