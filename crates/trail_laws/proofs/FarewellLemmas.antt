-- A client that is not ending asked for no farewell.
use Rattle.std.proofs.Common.{◌≡◌, ℕ, ◌+◌, Bool, true, false, List, [], ◌∷◌, Option, None, Some, refl}
use Rattle.std.specs.Prelude.{slice_get, if◌then◌else◌}
use Rattle.std.specs.Option.{option_and_then}
use Rattle.entry_judge.specs.Judge.{state_after}
use Rattle.entry_judge.specs.declared.timed.Timed.{Timed}
use Rattle.topo_book.specs.Fresh.{is_accepted_verdict}
use Rattle.topo_rules.specs.declared.event.TopoEvent.{TopoEvent}
use Rattle.desk_trail.specs.declared.entry.LookedHow.{LookedHow}
use Rattle.desk_trail.specs.declared.entry.LookedHow.TheVariants as looked
use Rattle.desk_trail.specs.declared.request.Purpose.{Purpose}
use Rattle.desk_trail.specs.declared.request.Purpose.TheVariants as purpose
use Rattle.desk_trail.specs.Attempts.{OfCommand, asked_by, command_step, commands_after}
use Rattle.desk_trail.specs.Checks.{kept_at, stream_taken}
use Rattle.desk_trail.specs.Clients.{Client}
use Rattle.desk_trail.specs.Facts.{Fact}
use Rattle.desk_trail.specs.Facts as fact
use Rattle.desk_trail.specs.Legal.{Point, beginning, changed_by, ends_by, point_after, point_behind, pool_after, stays_at}
use Rattle.desk_trail.specs.Looks.{look_asks}
use Rattle.desk_trail.specs.Pools.{OfHost, check_out_after, conn_streams_after, pool_step, pools_after}
use Rattle.desk_trail.specs.Requests.{farewell_by}
use Rattle.desk_trail.specs.States.{ClientState, number_of}
use Rattle.desk_trail.specs.Topologies.{asked_at, asks_of, verdict_on, with_ask}

abbrev pub AsksNone : ClientState → Type 0
AsksNone w = w.is_ending ≡ false → w.farewells ≡ []

-- ---- Behind each kind of entry

check_out-none : (moment : ℕ) (w : ClientState) (f : Fact) → AsksNone w → AsksNone (check_out_after moment w f)
check_out-none moment w (fact.Entered op host ticket) h = h
check_out-none moment w (fact.Lent op host conn) h = h
check_out-none moment w (fact.Dialled op host conn stream) h = h
check_out-none moment w (fact.NotLent op host why) h = h
check_out-none moment w (fact.CheckedIn op host conn errored) h = h
check_out-none moment w f h = h

streams-none : (w : ClientState) (f : Fact) → AsksNone w → AsksNone (conn_streams_after w f)
streams-none w (fact.Dialled op host conn (Some stream)) h = h
streams-none w (fact.Dialled op host conn None) h = h
streams-none w f h = h

pools-none : (w : ClientState) (moment : ℕ) (o : Option OfHost) → AsksNone w → AsksNone (pools_after w moment o)
pools-none w moment None h = h
pools-none w moment (Some e) h = h

pool-none : (w : ClientState) (moment : ℕ) (f : Fact) → AsksNone w → AsksNone (pool_after w moment f)
pool-none w moment f h =
    let v = pools_after w moment (pool_step w f) in
    check_out-none moment (conn_streams_after v f) f (streams-none v f (pools-none w moment (pool_step w f) h))

ends-none : (host : ℕ) (w v : ClientState) → AsksNone v → AsksNone (ends_by host w v)
ends-none host w v h = by (stays_at (slice_get w.servers host))
  where
    by : (b : Bool) → AsksNone (if b then record v { is_ending = true } else v)
    by true q = absurd (cc)
    by false q = h q

taken-none : (o : Option ℕ) (stream : ℕ) (w : ClientState) → AsksNone w → AsksNone (stream_taken o stream w)
taken-none None stream w h = h
taken-none (Some kept) stream w h = h

look-none : (moment : ℕ) (how : LookedHow) (w : ClientState) → AsksNone w → AsksNone (look_asks moment how w)
look-none moment looked.NoneFits w h = h
look-none moment (looked.Chosen host) w h = h
look-none moment looked.Failed w h = h
look-none moment (looked.Incompatible host) w h = h

asked-none : (moment : ℕ) (p : Purpose) (stream : ℕ) (w : ClientState) → AsksNone w → AsksNone (asked_by moment p (farewell_by p stream w))
asked-none moment (purpose.Command op) stream w h = h
asked-none moment (purpose.Check host) stream w h = h
asked-none moment (purpose.Greeting host conn) stream w h = h
asked-none moment purpose.Farewell stream w h = λ q. absurd (cc)

offered-none : (moment : ℕ) (e : TopoEvent) (w : ClientState) → AsksNone w → AsksNone (if is_accepted_verdict (verdict_on w e) then with_ask moment e w else w)
offered-none moment e w h = by (is_accepted_verdict (verdict_on w e)) (asks (option_and_then (number_of w) (asks_of e)))
  where
    asks : (o : Option ℕ) → AsksNone (asked_at moment o w)
    asks None = h
    asks (Some host) = h

    by : (b : Bool) → AsksNone (with_ask moment e w) → AsksNone (if b then with_ask moment e w else w)
    by true k = k
    by false k = h

change-none : (client : Client) (moment : ℕ) (w : ClientState) (f : Fact) → AsksNone w → AsksNone (changed_by client moment w f)
change-none client moment w (fact.Offered place e taken) h = offered-none moment e w h
change-none client moment w (fact.PoolReady host) h = pool-none w moment (fact.PoolReady host) h
change-none client moment w (fact.PoolClear host) h = pool-none w moment (fact.PoolClear host) h
change-none client moment w (fact.PoolShut host) h =
    ends-none host w (pool_after w moment (fact.PoolShut host)) (pool-none w moment (fact.PoolShut host) h)
change-none client moment w (fact.CheckBegan host stream) h = taken-none (kept_at w host) stream w h
change-none client moment w (fact.Looked op a b kept picked) h = look-none moment picked w h
change-none client moment w (fact.Entered op host ticket) h = pool-none w moment (fact.Entered op host ticket) h
change-none client moment w (fact.Lent op host conn) h = pool-none w moment (fact.Lent op host conn) h
change-none client moment w (fact.Dialled op host conn stream) h = pool-none w moment (fact.Dialled op host conn stream) h
change-none client moment w (fact.Settled op host conn stale) h = pool-none w moment (fact.Settled op host conn stale) h
change-none client moment w (fact.NotLent op host why) h = pool-none w moment (fact.NotLent op host why) h
change-none client moment w (fact.CheckedIn op host conn errored) h = pool-none w moment (fact.CheckedIn op host conn errored) h
change-none client moment w (fact.ConnShut host conn reason) h = pool-none w moment (fact.ConnShut host conn reason) h
change-none client moment w (fact.Asked place r) h = asked-none moment r.purpose r.stream (record w { requests = w.requests + 1 }) h
change-none client moment w f h = h

events-none : (o : Option OfCommand) (v : ClientState) → AsksNone v → AsksNone (commands_after o v)
events-none None v h = h
events-none (Some e) v h = h

-- ---- Behind a trail

none-step : (client : Client) (p : Point) (t : Timed Fact) → AsksNone p.state → AsksNone (point_after client p t).state
none-step client p t h =
    events-none (command_step client p.state t.what) (changed_by client t.at p.state t.what) (change-none client t.at p.state t.what h)

none-from : (client : Client) (p : Point) (ts : List (Timed Fact)) → AsksNone p.state → AsksNone (state_after (point_after client) p ts).state
none-from client p [] h = h
none-from client p (t ∷ ts) h = none-from client (point_after client p t) ts (none-step client p t h)

pub none-behind : (client : Client) (ts : List (Timed Fact)) → AsksNone (point_behind client ts).state
none-behind client ts = none-from client (beginning client) ts (λ q. refl)
