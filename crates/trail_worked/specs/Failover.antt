-- A failover with a retry, in a replica set of two: the primary ends the stream, and the insert goes out again to the next one
-- (Retryable Writes, Executing Retryable Write Commands; SDAM, Error handling).
use Rattle.std.specs.Prelude.{pos, true, false, List, [], ◌∷◌, Some, codes}
use Rattle.host_name.specs.Addresses.{Address}
use Rattle.hello_reply.specs.Descriptions.{unknown}
use Rattle.hello_reply.specs.declared.server_description.ServerDescription.{ServerDescription}
use Rattle.conn_uri.specs.Configurations.{plain_configuration}
use Rattle.entry_judge.specs.declared.timed.Timed.{Timed}
use Rattle.desk_trail.specs.Clients.{Client}
use Rattle.desk_trail.specs.Facts.{Fact}
use Rattle.trail_worked.specs.Words.{at, host, client_with, an_insert, check_hello, next_hello, greeting, command_request, wrote_one}
use Rattle.hello_reply.specs.declared.server_kind.ServerKind.TheVariants as kind
use Rattle.topo_rules.specs.declared.event.TopoEvent.TheVariants as event
use Rattle.pool_book.specs.declared.answers.CloseReason.TheVariants as reason
use Rattle.write_retry.specs.declared.attempt_end.AttemptEnd.TheVariants as attempt
use Rattle.write_retry.specs.declared.outcome.Outcome.TheVariants as outcome
use Rattle.desk_trail.specs.declared.entry.CheckHow.TheVariants as check
use Rattle.desk_trail.specs.declared.entry.LookedHow.TheVariants as looked
use Rattle.desk_trail.specs.declared.entry.OfferedHow.TheVariants as offered
use Rattle.desk_trail.specs.Facts as fact
use Rattle.trail_worked.specs.LeasedAgain.{session_id, numbered_bytes}

-- The two hosts of the set.
abbrev pub first : Address
first = host (codes "first")

abbrev pub second : Address
second = host (codes "second")

-- A client of the first of them with one insert, each option at its default.
abbrev pub client_of_set : Client
client_of_set = client_with (plain_configuration (first ∷ []) (Some (codes "rs")) (codes "test")) (an_insert ∷ [])

-- What a member says of itself: it lists both, and its sessions last 30 minutes.
abbrev pub member : Address → ServerDescription
member x = record (unknown x) { set_name = Some (codes "rs"); listed = first ∷ second ∷ []; max_wire = pos 21; session_minutes = Some (pos 30) }

abbrev pub primary : Address → ServerDescription
primary x = record (member x) { kind = kind.Primary; primary = Some x }

abbrev pub secondary : ServerDescription
secondary = record (member second) { kind = kind.Secondary; primary = Some first }

abbrev pub failover : List (Timed Fact)
failover =
    at 0 (fact.Named 0 first)  -- 0: the seed is named
    ∷ at 0 (fact.CheckBegan 0 1)  -- 1: its first check begins
    ∷ at 0 (fact.Asked 0 (check_hello 0 1 (pos 1)))  -- 2: with a hello
    ∷ at 100 (fact.CheckEnded 0 (check.Reply 100))  -- 3: the reply comes
    ∷ at 100 (fact.Offered 0 (event.Reply (primary first) 100) (offered.Accepted true))  -- 4: the seed is the primary, and lists another host
    ∷ at 100 (fact.Named 1 second)  -- 5: which is named
    ∷ at 100 (fact.PoolReady 0)  -- 6: the pool of the primary is made ready
    ∷ at 110 (fact.CheckBegan 1 2)  -- 7: the first check of the other one begins, on stream 2
    ∷ at 110 (fact.Asked 1 (check_hello 1 2 (pos 2)))  -- 8: with a hello
    ∷ at 200 (fact.CheckEnded 1 (check.Reply 90))  -- 9: the reply comes
    ∷ at 200 (fact.Offered 1 (event.Reply secondary 90) (offered.Accepted true))  -- 10: it is a secondary
    ∷ at 200 (fact.PoolReady 1)  -- 11: its pool is made ready
    ∷ at 300 (fact.Looked 0 7 8 (0 ∷ []) (looked.Chosen 0))  -- 12: the insert chooses the primary
    ∷ at 300 (fact.Leased 0 0 session_id true)  -- 13: it leases a session
    ∷ at 300 (fact.Drew 0 (pos 1))  -- 14: and draws a number
    ∷ at 300 (fact.Entered 0 0 0)  -- 15: it asks the pool for a connection
    ∷ at 300 (fact.Dialled 0 0 1 (Some 3))  -- 16: and dials one
    ∷ at 300 (fact.Asked 2 (greeting 0 1 3 (pos 3)))  -- 17: which says hello
    ∷ at 400 (fact.Settled 0 0 1 false)  -- 18: the hello is answered
    ∷ at 400 (fact.Lent 0 0 1)  -- 19: it has the connection
    ∷ at 400 (fact.Asked 3 (command_request 0 3 (pos 4) (numbered_bytes (pos 4) (pos 1))))  -- 20: and goes out
    ∷ at 500 (fact.Ended 0 attempt.Cut)  -- 21: the primary ends the stream
    ∷ at 500 (fact.Offered 2 (event.Broken first (Some 0)) (offered.Accepted true))  -- 22: so it is unknown, and there is no primary
    ∷ at 500 (fact.PoolClear 0)  -- 23: its pool is cleared
    ∷ at 500 (fact.CheckedIn 0 0 1 true)  -- 24: the connection is checked in as errored
    ∷ at 500 (fact.ConnShut 0 1 reason.Errored)  -- 25: and shut
    ∷ at 500 (fact.Looked 0 7 8 [] looked.NoneFits)  -- 26: the insert looks for another primary, and finds none yet
    ∷ at 500200 (fact.CheckBegan 1 2)  -- 27: half a second behind the last one the other server is checked again, on the same stream
    ∷ at 500200 (fact.Asked 4 (next_hello 1 2 (pos 5)))  -- 28: with a hello
    ∷ at 500300 (fact.CheckEnded 1 (check.Reply 100))  -- 29: the reply comes
    ∷ at 500300 (fact.Offered 3 (event.Reply (primary second) 100) (offered.Accepted true))  -- 30: it is the primary now
    ∷ at 500400 (fact.Looked 0 7 8 (1 ∷ []) (looked.Chosen 1))  -- 31: the insert chooses it
    ∷ at 500400 (fact.Entered 0 1 0)  -- 32: it keeps its session and its number, and asks the pool for a connection
    ∷ at 500400 (fact.Dialled 0 1 1 (Some 4))  -- 33: it dials one
    ∷ at 500400 (fact.Asked 5 (greeting 1 1 4 (pos 6)))  -- 34: which says hello
    ∷ at 500500 (fact.Settled 0 1 1 false)  -- 35: the hello is answered
    ∷ at 500500 (fact.Lent 0 1 1)  -- 36: it has the connection
    ∷ at 500500 (fact.Asked 6 (command_request 0 4 (pos 7) (numbered_bytes (pos 7) (pos 1))))  -- 37: and goes out again, with the same number
    ∷ at 500600 (fact.Ended 0 (attempt.Replied wrote_one))  -- 38: it was done
    ∷ at 500600 (fact.CheckedIn 0 1 1 false)  -- 39: it gives the connection back
    ∷ at 500600 (fact.Finished 0 (outcome.Ok (pos 1) (pos 0)))  -- 40: and is answered
    ∷ at 500600 (fact.Returned 0 true false)  -- 41: its session is dirty, and is not kept
    ∷ []
