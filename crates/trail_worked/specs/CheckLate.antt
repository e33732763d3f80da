-- Checks that end late: the first one of a known server, and is followed at once, the second one of an unknown server, and is
-- not (Server Monitoring, connectTimeoutMS, Network or command error during server check).
use Rattle.std.specs.Prelude.{pos, true, false, List, [], ◌∷◌, None}
use Rattle.entry_judge.specs.declared.timed.Timed.{Timed}
use Rattle.desk_trail.specs.Facts.{Fact}
use Rattle.trail_worked.specs.Words.{at, check_hello, next_hello}
use Rattle.topo_rules.specs.declared.event.TopoEvent.TheVariants as event
use Rattle.desk_trail.specs.declared.entry.CheckHow.TheVariants as check
use Rattle.desk_trail.specs.declared.entry.OfferedHow.TheVariants as offered
use Rattle.desk_trail.specs.Facts as fact
use Rattle.trail_worked.specs.OneInsert.{alone, standalone}

abbrev pub check_late : List (Timed Fact)
check_late =
    at 0 (fact.Named 0 alone)  -- 0: the seed is named
    ∷ at 0 (fact.CheckBegan 0 1)  -- 1: its first check begins at once, on stream 1
    ∷ at 0 (fact.Asked 0 (check_hello 0 1 (pos 1)))  -- 2: with a hello
    ∷ at 100 (fact.CheckEnded 0 (check.Reply 100))  -- 3: the reply comes after 100 microseconds
    ∷ at 100 (fact.Offered 0 (event.Reply standalone 100) (offered.Accepted true))  -- 4: the topology takes it in, and is Single
    ∷ at 100 (fact.PoolReady 0)  -- 5: so the pool is made ready
    ∷ at 10000100 (fact.CheckBegan 0 1)  -- 6: ten seconds behind the first check the next one begins, on the same stream
    ∷ at 10000100 (fact.Asked 1 (next_hello 0 1 (pos 2)))  -- 7: with a hello
    ∷ at 20000100 (fact.CheckEnded 0 check.Late)  -- 8: ten seconds later it had no answer
    ∷ at 20000100 (fact.Offered 1 (event.Broken alone None) (offered.Accepted true))  -- 9: so the server is unknown
    ∷ at 20000100 (fact.PoolClear 0)  -- 10: and its pool is cleared
    ∷ at 20000100 (fact.CheckBegan 0 2)  -- 11: it was known, so the next check begins at once, on a new stream
    ∷ at 20000100 (fact.Asked 2 (check_hello 0 2 (pos 3)))  -- 12: with a first hello
    ∷ at 30000100 (fact.CheckEnded 0 check.Late)  -- 13: this one is late too
    ∷ at 30000100 (fact.Offered 2 (event.Broken alone None) (offered.Accepted false))  -- 14: which changes nothing of the topology
    ∷ at 30000100 (fact.PoolClear 0)  -- 15: but clears the pool again
    ∷ at 40000100 (fact.CheckBegan 0 3)  -- 16: the server was unknown, so the next check begins ten seconds later
    ∷ at 40000100 (fact.Asked 3 (check_hello 0 3 (pos 4)))  -- 17: with a first hello
    ∷ []
