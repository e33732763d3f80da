-- Histories of a net, and what trails say of the stream 3 in them.
use Rattle.std.specs.Prelude.{ℕ, List, [], ◌∷◌, Option, Some, codes, pos}
use Rattle.entry_judge.specs.declared.timed.Timed.{Timed}
use Rattle.cmd_outcome.specs.declared.reading.Reading.{Reading}
use Rattle.net_link.specs.declared.event.NetEvent.{NetEvent}
use Rattle.net_link.specs.declared.event.NetEvent.TheVariants as event
use Rattle.desk_trail.specs.declared.entry.CheckHow.TheVariants as check
use Rattle.desk_trail.specs.declared.request.Purpose.TheVariants as purpose
use Rattle.desk_trail.specs.declared.request.Request.{Request}
use Rattle.desk_trail.specs.Facts.{Fact}
use Rattle.desk_trail.specs.Facts as fact
use Rattle.desk_trail.specs.Streams.{Account, Unanswered, no_account}
use Rattle.desk_trail.specs.Streams as told

-- ---- What the net told

-- A stream is dialled, a request is sent on it, and then that happens.
abbrev pub sent : List ℕ → List NetEvent → List NetEvent
sent bytes behind = event.Dialled 3 (codes "a:1") ∷ event.Out 3 bytes ∷ behind

-- The net had no more for a while, and then these bytes came, in one piece or in two.
abbrev pub came : List ℕ → List NetEvent
came text = event.Dry 3 ∷ event.Came 3 text ∷ []

abbrev pub came_twice : List ℕ → List ℕ → List NetEvent
came_twice first second = event.Came 3 first ∷ event.Dry 3 ∷ event.Came 3 second ∷ []

-- ---- What a trail says

-- The request that was sent, with the id 1.
abbrev pub request : List ℕ → Request
request bytes = record { stream = 3; id = pos 1; purpose = purpose.Command 0; bytes = bytes }

-- It was answered, by a reply that reads so.
abbrev pub answered : List ℕ → Reading → Account
answered bytes reading = record no_account { answered = record { request = request bytes; says = told.Reply reading } ∷ [] }

-- It waits for its answer, or has none, for that reason.
abbrev pub unanswered : List ℕ → Option Unanswered → Account
unanswered bytes how = record no_account { last = Some (request bytes); how = how }

-- Entries of one moment.
abbrev pub at_once : Fact → Timed Fact
at_once f = record { at = 5; what = f }

-- A check for which no stream was dialled, told so often.
abbrev pub undialled_once : List (Timed Fact)
undialled_once = at_once (fact.CheckEnded 0 check.NoDial) ∷ []

abbrev pub undialled_twice : List (Timed Fact)
undialled_twice = at_once (fact.CheckEnded 0 check.NoDial) ∷ at_once (fact.CheckEnded 1 check.NoDial) ∷ []
