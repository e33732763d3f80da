-- Selections that fail at their deadline, once every server was checked (Server Selection, serverSelectionTimeoutMS).
use Rattle.std.specs.Prelude.{pos, false, List, [], ◌∷◌, None, codes}
use Rattle.conn_uri.specs.Configurations.{plain_configuration}
use Rattle.entry_judge.specs.declared.timed.Timed.{Timed}
use Rattle.desk_trail.specs.Clients.{Client}
use Rattle.desk_trail.specs.Facts.{Fact}
use Rattle.trail_worked.specs.Words.{at, client_with, an_insert, check_hello}
use Rattle.topo_rules.specs.declared.event.TopoEvent.TheVariants as event
use Rattle.write_retry.specs.declared.outcome.Outcome.TheVariants as outcome
use Rattle.desk_trail.specs.declared.entry.CheckHow.TheVariants as check
use Rattle.desk_trail.specs.declared.entry.LookedHow.TheVariants as looked
use Rattle.desk_trail.specs.declared.entry.OfferedHow.TheVariants as offered
use Rattle.desk_trail.specs.Facts as fact
use Rattle.trail_worked.specs.OneInsert.{alone}

-- A client of the only seed with one insert, whose selections end after 600 milliseconds.
abbrev pub client_with_deadline : Client
client_with_deadline = client_with (record (plain_configuration (alone ∷ []) None (codes "test")) { select_ms = 600 }) (an_insert ∷ [])

abbrev pub no_server : List (Timed Fact)
no_server =
    at 0 (fact.Named 0 alone)  -- 0: the seed is named
    ∷ at 0 (fact.CheckBegan 0 1)  -- 1: its first check begins
    ∷ at 0 (fact.Asked 0 (check_hello 0 1 (pos 1)))  -- 2: with a hello
    ∷ at 100 (fact.Looked 0 7 8 [] looked.NoneFits)  -- 3: the insert looks for a server, and finds none yet; its deadline is 600 milliseconds later
    ∷ at 600100 (fact.CheckDry 0)  -- 4: there the check has no answer still
    ∷ at 600100 (fact.Looked 0 7 8 [] looked.Failed)  -- 5: so the insert finds no server
    ∷ at 600100 (fact.Finished 0 outcome.NoServer)  -- 6: and is answered
    ∷ []

-- The same where the first check is cut: the look that finds none asks for another one, and the insert waits until it has begun.
abbrev pub no_server_behind_a_cut : List (Timed Fact)
no_server_behind_a_cut =
    at 0 (fact.Named 0 alone)  -- 0: the seed is named
    ∷ at 0 (fact.CheckBegan 0 1)  -- 1: its first check begins
    ∷ at 0 (fact.Asked 0 (check_hello 0 1 (pos 1)))  -- 2: with a hello
    ∷ at 100 (fact.CheckEnded 0 check.Cut)  -- 3: its stream is cut
    ∷ at 100 (fact.Offered 0 (event.Broken alone None) (offered.Accepted false))  -- 4: which changes nothing of the topology
    ∷ at 100 (fact.PoolClear 0)  -- 5: but clears the pool
    ∷ at 200 (fact.Looked 0 7 8 [] looked.NoneFits)  -- 6: the insert finds no server yet, and asks for a check; its deadline is 600 milliseconds later
    ∷ at 500100 (fact.CheckBegan 0 2)  -- 7: which begins half a second behind the end of the first one
    ∷ at 500100 (fact.Asked 1 (check_hello 0 2 (pos 2)))  -- 8: with a first hello
    ∷ at 600200 (fact.Looked 0 7 8 [] looked.Failed)  -- 9: at the deadline no check is due, since this one runs: the insert finds no server
    ∷ at 600200 (fact.Finished 0 outcome.NoServer)  -- 10: and is answered
    ∷ []
