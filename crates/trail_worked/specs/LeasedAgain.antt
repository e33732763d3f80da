-- A session that is given back and leased again, on a mongos (Driver Sessions, Server Session Pool; Retryable Writes, Generating
-- Transaction Identifiers).
use Rattle.std.specs.Prelude.{ℕ, ℤ, pos, true, false, List, [], ◌∷◌, None, Some, codes}
use Rattle.host_name.specs.Addresses.{Address}
use Rattle.bson_doc.specs.declared.ids.Lsid.{Lsid}
use Rattle.hello_reply.specs.Descriptions.{unknown}
use Rattle.hello_reply.specs.declared.server_description.ServerDescription.{ServerDescription}
use Rattle.conn_uri.specs.Configurations.{plain_configuration}
use Rattle.entry_judge.specs.declared.timed.Timed.{Timed}
use Rattle.desk_trail.specs.Clients.{Client}
use Rattle.desk_trail.specs.Facts.{Fact}
use Rattle.trail_worked.specs.Words.{at, host, client_with, an_insert, check_hello, greeting, command_request, command_bytes, wrote_one}
use Rattle.hello_reply.specs.declared.server_kind.ServerKind.TheVariants as kind
use Rattle.topo_rules.specs.declared.event.TopoEvent.TheVariants as event
use Rattle.write_retry.specs.declared.attempt_end.AttemptEnd.TheVariants as attempt
use Rattle.write_retry.specs.declared.outcome.Outcome.TheVariants as outcome
use Rattle.desk_trail.specs.declared.entry.CheckHow.TheVariants as check
use Rattle.desk_trail.specs.declared.entry.LookedHow.TheVariants as looked
use Rattle.desk_trail.specs.declared.entry.OfferedHow.TheVariants as offered
use Rattle.desk_trail.specs.Facts as fact

-- The only seed.
abbrev pub router : Address
router = host (codes "router")

-- A client of that seed with two inserts, each option at its default.
abbrev pub client_of_two : Client
client_of_two = client_with (plain_configuration (router ∷ []) None (codes "test")) (an_insert ∷ an_insert ∷ [])

-- What the server says of itself: a mongos whose sessions last 30 minutes.
abbrev pub mongos : ServerDescription
mongos = record (unknown router) { kind = kind.Mongos; max_wire = pos 21; session_minutes = Some (pos 30) }

-- The id of the session; and another one.
abbrev pub session_id : Lsid
session_id = record { 0 = 16 ∷ 32 ∷ 48 ∷ 64 ∷ 80 ∷ 96 ∷ 64 ∷ 128 ∷ 128 ∷ 160 ∷ 176 ∷ 192 ∷ 208 ∷ 224 ∷ 240 ∷ 1 ∷ [] }

abbrev pub other_id : Lsid
other_id = record { 0 = 17 ∷ 32 ∷ 48 ∷ 64 ∷ 80 ∷ 96 ∷ 64 ∷ 128 ∷ 128 ∷ 160 ∷ 176 ∷ 192 ∷ 208 ∷ 224 ∷ 240 ∷ 1 ∷ [] }

-- The bytes of an insert with the session and a number.
abbrev pub numbered_bytes : ℤ → ℤ → List ℕ
numbered_bytes id number =
    command_bytes id an_insert (codes "test") (record { lsid = Some session_id; number = Some number; mode = None; read = None })

abbrev pub leased_again : List (Timed Fact)
leased_again =
    at 0 (fact.Named 0 router)  -- 0: the seed is named
    ∷ at 0 (fact.CheckBegan 0 1)  -- 1: its first check begins at once, on stream 1
    ∷ at 0 (fact.Asked 0 (check_hello 0 1 (pos 1)))  -- 2: with a hello
    ∷ at 100 (fact.CheckEnded 0 (check.Reply 100))  -- 3: the reply comes after 100 microseconds
    ∷ at 100 (fact.Offered 0 (event.Reply mongos 100) (offered.Accepted true))  -- 4: the topology takes it in, and is Sharded
    ∷ at 100 (fact.PoolReady 0)  -- 5: so the pool is made ready
    ∷ at 200 (fact.Looked 0 7 8 (0 ∷ []) (looked.Chosen 0))  -- 6: the first insert chooses the server
    ∷ at 200 (fact.Leased 0 0 session_id true)  -- 7: it leases a session, which is made for it
    ∷ at 200 (fact.Drew 0 (pos 1))  -- 8: and draws its first number
    ∷ at 200 (fact.Entered 0 0 0)  -- 9: it asks the pool for a connection
    ∷ at 200 (fact.Dialled 0 0 1 (Some 2))  -- 10: and dials one
    ∷ at 200 (fact.Asked 1 (greeting 0 1 2 (pos 2)))  -- 11: which says hello
    ∷ at 300 (fact.Settled 0 0 1 false)  -- 12: the hello is answered
    ∷ at 300 (fact.Lent 0 0 1)  -- 13: it has the connection
    ∷ at 300 (fact.Asked 2 (command_request 0 2 (pos 3) (numbered_bytes (pos 3) (pos 1))))  -- 14: and goes out with the session and the number
    ∷ at 400 (fact.Ended 0 (attempt.Replied wrote_one))  -- 15: it was done
    ∷ at 400 (fact.CheckedIn 0 0 1 false)  -- 16: and gives the connection back
    ∷ at 400 (fact.Finished 0 (outcome.Ok (pos 1) (pos 0)))  -- 17: it is answered
    ∷ at 400 (fact.Returned 0 false true)  -- 18: and gives the session back, which is kept
    ∷ at 500 (fact.Looked 1 7 8 (0 ∷ []) (looked.Chosen 0))  -- 19: the second insert chooses the server
    ∷ at 500 (fact.Leased 1 0 session_id false)  -- 20: it leases the same session
    ∷ at 500 (fact.Drew 1 (pos 2))  -- 21: and draws the next number
    ∷ at 500 (fact.Entered 1 0 1)  -- 22: it asks the pool for a connection
    ∷ at 500 (fact.Lent 1 0 1)  -- 23: and gets the one that was given back
    ∷ at 500 (fact.Asked 3 (command_request 1 2 (pos 4) (numbered_bytes (pos 4) (pos 2))))  -- 24: it goes out
    ∷ at 600 (fact.Ended 1 (attempt.Replied wrote_one))  -- 25: it was done
    ∷ at 600 (fact.CheckedIn 1 0 1 false)  -- 26: and gives the connection back
    ∷ at 600 (fact.Finished 1 (outcome.Ok (pos 1) (pos 0)))  -- 27: it is answered
    ∷ at 600 (fact.Returned 1 false true)  -- 28: and gives the session back
    ∷ []
