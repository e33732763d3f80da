-- One insert on a standalone server, with the check that finds the server (Server Monitoring; CMAP; Server Selection).
use Rattle.std.specs.Prelude.{ℕ, ℤ, pos, true, false, List, [], ◌∷◌, None, Some, codes}
use Rattle.host_name.specs.Addresses.{Address}
use Rattle.hello_reply.specs.Descriptions.{unknown}
use Rattle.hello_reply.specs.declared.server_description.ServerDescription.{ServerDescription}
use Rattle.conn_uri.specs.Configurations.{plain_configuration}
use Rattle.entry_judge.specs.declared.timed.Timed.{Timed}
use Rattle.desk_trail.specs.declared.step.Step.{Step}
use Rattle.desk_trail.specs.Clients.{Client}
use Rattle.desk_trail.specs.Facts.{Fact, Lists}
use Rattle.trail_worked.specs.Words.{at, host, client_with, an_insert, check_hello, greeting, command_request, command_bytes, wrote_one}
use Rattle.hello_reply.specs.declared.server_kind.ServerKind.TheVariants as kind
use Rattle.topo_rules.specs.declared.event.TopoEvent.TheVariants as event
use Rattle.write_retry.specs.declared.attempt_end.AttemptEnd.TheVariants as attempt
use Rattle.write_retry.specs.declared.outcome.Outcome.TheVariants as outcome
use Rattle.desk_trail.specs.declared.entry.Entry.TheVariants as entry
use Rattle.desk_trail.specs.declared.entry.CheckHow.TheVariants as check
use Rattle.desk_trail.specs.declared.entry.LookedHow.TheVariants as looked
use Rattle.desk_trail.specs.declared.entry.OfferedHow.TheVariants as offered
use Rattle.desk_trail.specs.Facts as fact

-- The only seed.
abbrev pub alone : Address
alone = host (codes "alone")

-- A client of that seed with one insert, each option at its default.
abbrev pub client_of_one : Client
client_of_one = client_with (plain_configuration (alone ∷ []) None (codes "test")) (an_insert ∷ [])

-- What the server says of itself: a standalone without sessions, of wire version 21.
abbrev pub standalone : ServerDescription
standalone = record (unknown alone) { kind = kind.Standalone; max_wire = pos 21 }

-- The bytes of the insert: without a session, a number and a read preference.
abbrev pub insert_bytes : ℤ → List ℕ
insert_bytes id = command_bytes id an_insert (codes "test") (record { lsid = None; number = None; mode = None; read = None })

abbrev pub one_insert : List (Timed Fact)
one_insert =
    at 0 (fact.Named 0 alone)  -- 0: the seed is named
    ∷ at 0 (fact.CheckBegan 0 1)  -- 1: its first check begins at once, on stream 1
    ∷ at 0 (fact.Asked 0 (check_hello 0 1 (pos 1)))  -- 2: with a hello
    ∷ at 100 (fact.CheckEnded 0 (check.Reply 100))  -- 3: the reply comes after 100 microseconds
    ∷ at 100 (fact.Offered 0 (event.Reply standalone 100) (offered.Accepted true))  -- 4: the topology takes it in, and is Single
    ∷ at 100 (fact.PoolReady 0)  -- 5: so the pool is made ready
    ∷ at 200 (fact.Looked 0 7 8 (0 ∷ []) (looked.Chosen 0))  -- 6: the insert looks for a server, and chooses the only one
    ∷ at 200 (fact.Entered 0 0 0)  -- 7: it asks the pool for a connection
    ∷ at 200 (fact.Dialled 0 0 1 (Some 2))  -- 8: and dials one, on stream 2
    ∷ at 200 (fact.Asked 1 (greeting 0 1 2 (pos 2)))  -- 9: which says hello
    ∷ at 300 (fact.Settled 0 0 1 false)  -- 10: the hello is answered
    ∷ at 300 (fact.Lent 0 0 1)  -- 11: so the connection is checked out
    ∷ at 300 (fact.Asked 2 (command_request 0 2 (pos 3) (insert_bytes (pos 3))))  -- 12: the insert goes out
    ∷ at 400 (fact.Ended 0 (attempt.Replied wrote_one))  -- 13: one document was written
    ∷ at 400 (fact.CheckedIn 0 0 1 false)  -- 14: the connection is checked in
    ∷ at 400 (fact.Finished 0 (outcome.Ok (pos 1) (pos 0)))  -- 15: and the insert is answered
    ∷ []

-- The same bytes of the third command_request, written out (MongoDB wire protocol, OP_MSG; bsonspec 1.1).
abbrev pub insert_message : List ℕ
insert_message =
    146 ∷ 0 ∷ 0 ∷ 0 ∷ 3 ∷ 0 ∷ 0 ∷ 0 ∷ 0 ∷ 0 ∷ 0 ∷ 0 ∷ 221 ∷ 7 ∷ 0 ∷ 0  -- messageLength, requestID, responseTo and opCode
    ∷ 0 ∷ 0 ∷ 0 ∷ 0 ∷ 0  -- flagBits and the kind of the section
    ∷ 125 ∷ 0 ∷ 0 ∷ 0  -- the length of the document
    ∷ 2 ∷ 105 ∷ 110 ∷ 115 ∷ 101 ∷ 114 ∷ 116 ∷ 0 ∷ 7 ∷ 0 ∷ 0 ∷ 0 ∷ 116 ∷ 104 ∷ 105 ∷ 110 ∷ 103 ∷ 115 ∷ 0  -- insert, the collection
    ∷ 4 ∷ 100 ∷ 111 ∷ 99 ∷ 117 ∷ 109 ∷ 101 ∷ 110 ∷ 116 ∷ 115 ∷ 0 ∷ 13 ∷ 0 ∷ 0 ∷ 0 ∷ 3 ∷ 48 ∷ 0 ∷ 5 ∷ 0 ∷ 0 ∷ 0 ∷ 0 ∷ 0  -- documents, an array of one empty document
    ∷ 8 ∷ 111 ∷ 114 ∷ 100 ∷ 101 ∷ 114 ∷ 101 ∷ 100 ∷ 0 ∷ 1  -- ordered, true
    ∷ 3 ∷ 119 ∷ 114 ∷ 105 ∷ 116 ∷ 101 ∷ 67 ∷ 111 ∷ 110 ∷ 99 ∷ 101 ∷ 114 ∷ 110 ∷ 0 ∷ 21 ∷ 0 ∷ 0 ∷ 0 ∷ 2 ∷ 119 ∷ 0 ∷ 9 ∷ 0 ∷ 0  -- writeConcern, w majority
    ∷ 0 ∷ 109 ∷ 97 ∷ 106 ∷ 111 ∷ 114 ∷ 105 ∷ 116 ∷ 121 ∷ 0 ∷ 0
    ∷ 2 ∷ 97 ∷ 112 ∷ 105 ∷ 86 ∷ 101 ∷ 114 ∷ 115 ∷ 105 ∷ 111 ∷ 110 ∷ 0 ∷ 2 ∷ 0 ∷ 0 ∷ 0 ∷ 49 ∷ 0  -- apiVersion, 1
    ∷ 2 ∷ 36 ∷ 100 ∷ 98 ∷ 0 ∷ 5 ∷ 0 ∷ 0 ∷ 0 ∷ 116 ∷ 101 ∷ 115 ∷ 116 ∷ 0  -- $db, the database
    ∷ 0  -- the end of the document
    ∷ []

-- The same with the five lists: names, events, ids of sessions and requests, and the steps, whose entries name their places.
abbrev pub lists : Lists
lists = record {
  names = alone ∷ [];
  events = event.Reply standalone 100 ∷ [];
  sessions = [];
  requests = check_hello 0 1 (pos 1) ∷ greeting 0 1 2 (pos 2) ∷ command_request 0 2 (pos 3) (insert_bytes (pos 3)) ∷ [];
}

abbrev pub steps : List Step
steps =
    record { moment = 0; entry = entry.Named 0 }
    ∷ record { moment = 0; entry = entry.CheckBegan 0 1 }
    ∷ record { moment = 0; entry = entry.Asked 0 }
    ∷ record { moment = 100; entry = entry.CheckEnded 0 (check.Reply 100) }
    ∷ record { moment = 100; entry = entry.Offered 0 (offered.Accepted true) }
    ∷ record { moment = 100; entry = entry.PoolReady 0 }
    ∷ record { moment = 200; entry = entry.Looked 0 7 8 (0 ∷ []) (looked.Chosen 0) }
    ∷ record { moment = 200; entry = entry.Entered 0 0 0 }
    ∷ record { moment = 200; entry = entry.Dialled 0 0 1 (Some 2) }
    ∷ record { moment = 200; entry = entry.Asked 1 }
    ∷ record { moment = 300; entry = entry.Settled 0 0 1 false }
    ∷ record { moment = 300; entry = entry.Lent 0 0 1 }
    ∷ record { moment = 300; entry = entry.Asked 2 }
    ∷ record { moment = 400; entry = entry.Ended 0 (attempt.Replied wrote_one) }
    ∷ record { moment = 400; entry = entry.CheckedIn 0 0 1 false }
    ∷ record { moment = 400; entry = entry.Finished 0 (outcome.Ok (pos 1) (pos 0)) }
    ∷ []
