-- What each entry does to a command, and to the sessions.
use Rattle.std.proofs.Common.{◌≡◌, ℕ, ◌+◌, Bool, true, false, cond, eqb, List, Option, None, Some, refl, sym, ap, ◌∙◌}
use Rattle.std.specs.Prelude.{slice_get, if◌then◌else◌}
use Rattle.std.specs.Option.{option_and_then, option_map}
use Rattle.topo_book.specs.Fresh.{is_accepted_verdict}
use Rattle.topo_rules.specs.declared.event.TopoEvent.{TopoEvent}
use Rattle.desk_trail.specs.declared.entry.LookedHow.{LookedHow}
use Rattle.desk_trail.specs.declared.entry.LookedHow.TheVariants as looked
use Rattle.desk_trail.specs.declared.request.Purpose.{Purpose}
use Rattle.desk_trail.specs.declared.request.Purpose.TheVariants as purpose
use Rattle.desk_trail.specs.Attempts.{OfCommand, asked_by, command_step, commands_after, end_by, finished, with_event}
use Rattle.desk_trail.specs.Checks.{kept_at, stream_taken}
use Rattle.desk_trail.specs.Clients.{Client}
use Rattle.desk_trail.specs.Facts.{Fact}
use Rattle.desk_trail.specs.Facts as fact
use Rattle.desk_trail.specs.Leases.{sessions_by}
use Rattle.desk_trail.specs.Legal.{changed_by, client_after, ends_by, pool_after, stays_at}
use Rattle.desk_trail.specs.Looks.{look_asks, look_by}
use Rattle.desk_trail.specs.Parts.{session_step}
use Rattle.desk_trail.specs.Pools.{OfHost, check_out_after, conn_streams_after, dials_now, has_by, pool_step, pools_after, waits_now}
use Rattle.desk_trail.specs.Requests.{farewell_by}
use Rattle.desk_trail.specs.States.{ClientState, CommandState, Nothing, changed, number_of}
use Rattle.desk_trail.specs.Topologies.{asked_at, asks_of, offered_after, verdict_on, with_ask}
use Rattle.request_keys.proofs.ListLemmas.{changed-get, map-same, map-twice}

-- ---- What leaves commands and sessions

record Beside (w v : ClientState) : Type 0 where
  pub commands : v.commands ≡ w.commands
  pub sessions : v.sessions ≡ w.sessions

besides : (w v u : ClientState) → Beside w v → Beside v u → Beside w u
besides w v u a b = record { commands = b.commands ∙ a.commands; sessions = b.sessions ∙ a.sessions }

beside-same : (w : ClientState) → Beside w w
beside-same w = record { commands = refl; sessions = refl }

beside-pools : (w : ClientState) (moment : ℕ) (o : Option OfHost) → Beside w (pools_after w moment o)
beside-pools w moment None = beside-same w
beside-pools w moment (Some e) = record { commands = refl; sessions = refl }

beside-streams : (w : ClientState) (f : Fact) → Beside w (conn_streams_after w f)
beside-streams w (fact.Dialled op host conn (Some stream)) = record { commands = refl; sessions = refl }
beside-streams w (fact.Dialled op host conn None) = beside-same w
beside-streams w f = beside-same w

beside-pool : (w : ClientState) (moment : ℕ) (f : Fact) → Beside w (conn_streams_after (pools_after w moment (pool_step w f)) f)
beside-pool w moment f =
    let v = pools_after w moment (pool_step w f) in
    besides w v (conn_streams_after v f) (beside-pools w moment (pool_step w f)) (beside-streams v f)

beside-ends : (host : ℕ) (w v : ClientState) → Beside v (ends_by host w v)
beside-ends host w v = by (stays_at (slice_get w.servers host))
  where
    by : (b : Bool) → Beside v (if b then record v { is_ending = true } else v)
    by true = record { commands = refl; sessions = refl }
    by false = beside-same v

beside-taken : (o : Option ℕ) (stream : ℕ) (w : ClientState) → Beside w (stream_taken o stream w)
beside-taken None stream w = record { commands = refl; sessions = refl }
beside-taken (Some kept) stream w = beside-same w

beside-look : (moment : ℕ) (h : LookedHow) (w : ClientState) → Beside w (look_asks moment h w)
beside-look moment looked.NoneFits w = record { commands = refl; sessions = refl }
beside-look moment (looked.Chosen host) w = beside-same w
beside-look moment looked.Failed w = beside-same w
beside-look moment (looked.Incompatible host) w = beside-same w

beside-offered : (moment : ℕ) (e : TopoEvent) (w : ClientState) → Beside w (offered_after moment e w)
beside-offered moment e w =
    let h = by (is_accepted_verdict (verdict_on w e)) (asks (option_and_then (number_of w) (asks_of e))) in
    record { commands = h.commands; sessions = h.sessions }
  where
    asks : (o : Option ℕ) → Beside w (asked_at moment o w)
    asks None = beside-same w
    asks (Some host) = record { commands = refl; sessions = refl }

    by : (b : Bool) → Beside w (with_ask moment e w) → Beside w (if b then with_ask moment e w else w)
    by true h = h
    by false h = beside-same w

-- ---- What each entry does to a command, its event aside

-- a change of the command at a place; none where it changes no command
pub data Change : Type 0 where
  Still : Change
  Of : (op : ℕ) (g : CommandState → CommandState) → Change

abbrev pub asked_change : ℕ → Purpose → Change
asked_change moment (purpose.Command op) = Of op (λ c. record c { asked = Some moment })
asked_change moment p = Still

abbrev pub change_of : ℕ → ClientState → Fact → Change
change_of moment w (fact.Looked op a b kept picked) = Of op (look_by w moment picked)
change_of moment w (fact.Entered op host ticket) = Of op (waits_now host ticket)
change_of moment w (fact.Lent op host conn) = Of op (λ c. record c { check_out = has_by conn c.check_out })
change_of moment w (fact.Dialled op host conn stream) = Of op (dials_now moment conn)
change_of moment w (fact.NotLent op host why) = Of op (λ c. record c { check_out = Nothing })
change_of moment w (fact.CheckedIn op host conn errored) = Of op (λ c. record c { check_out = Nothing })
change_of moment w (fact.Leased op place lsid fresh) = Of op (λ c. record c { session = Some place })
change_of moment w (fact.Drew op number) = Of op (λ c. record c { number = Some number })
change_of moment w (fact.Returned op dirty kept) = Of op (λ c. record c { session = None })
change_of moment w (fact.Asked place request) = asked_change moment request.purpose
change_of moment w (fact.Ended op end) = Of op (end_by end)
change_of moment w (fact.Finished op outcome) = Of op finished
change_of moment w f = Still

abbrev with_change : Change → List CommandState → List CommandState
with_change Still cs = cs
with_change (Of op g) cs = changed cs op g

abbrev pub change_to : ℕ → Change → CommandState → CommandState
change_to op Still c = c
change_to op (Of k g) c = cond (eqb k op) (g c) c

abbrev pub event_to : ℕ → Option OfCommand → CommandState → CommandState
event_to op None c = c
event_to op (Some e) c = cond (eqb e.0 op) (with_event e.1 c) c

-- what an entry does to the command of that number
abbrev pub moves : Client → ℕ → ClientState → Fact → ℕ → CommandState → CommandState
moves client moment w f op c = event_to op (command_step client w f) (change_to op (change_of moment w f) c)

on-changed : (op : ℕ) (g : CommandState → CommandState) (cs ds : List CommandState) → ds ≡ cs → changed ds op g ≡ changed cs op g
on-changed op g cs ds e = ap (λ xs. changed xs op g) e

asked-change : (moment : ℕ) (p : Purpose) (stream : ℕ) (w : ClientState) → (asked_by moment p (farewell_by p stream w)).commands ≡ with_change (asked_change moment p) w.commands
asked-change moment (purpose.Command op) stream w = refl
asked-change moment (purpose.Check host) stream w = refl
asked-change moment (purpose.Greeting host conn) stream w = refl
asked-change moment purpose.Farewell stream w = refl

changes : (client : Client) (moment : ℕ) (w : ClientState) (f : Fact) → (changed_by client moment w f).commands ≡ with_change (change_of moment w f) w.commands
changes client moment w (fact.Named host address) = refl
changes client moment w (fact.Dropped host) = refl
changes client moment w (fact.Offered place e taken) = (beside-offered moment e w).commands
changes client moment w (fact.PoolReady host) = (beside-pool w moment (fact.PoolReady host)).commands
changes client moment w (fact.PoolClear host) = (beside-pool w moment (fact.PoolClear host)).commands
changes client moment w (fact.PoolShut host) = (beside-ends host w (pool_after w moment (fact.PoolShut host))).commands ∙ (beside-pool w moment (fact.PoolShut host)).commands
changes client moment w (fact.CheckBegan host stream) = (beside-taken (kept_at w host) stream w).commands
changes client moment w (fact.CheckDry host) = refl
changes client moment w (fact.CheckEnded host h) = refl
changes client moment w (fact.Looked op a b kept picked) = on-changed op (look_by w moment picked) w.commands _ (beside-look moment picked w).commands
changes client moment w (fact.Entered op host ticket) = on-changed op (waits_now host ticket) w.commands _ (beside-pool w moment (fact.Entered op host ticket)).commands
changes client moment w (fact.Lent op host conn) =
    on-changed op (λ c. record c { check_out = has_by conn c.check_out }) w.commands _ (beside-pool w moment (fact.Lent op host conn)).commands
changes client moment w (fact.Dialled op host conn stream) =
    on-changed op (dials_now moment conn) w.commands _ (beside-pool w moment (fact.Dialled op host conn stream)).commands
changes client moment w (fact.Settled op host conn stale) = (beside-pool w moment (fact.Settled op host conn stale)).commands
changes client moment w (fact.NotLent op host why) =
    on-changed op (λ c. record c { check_out = Nothing }) w.commands _ (beside-pool w moment (fact.NotLent op host why)).commands
changes client moment w (fact.CheckedIn op host conn errored) =
    on-changed op (λ c. record c { check_out = Nothing }) w.commands _ (beside-pool w moment (fact.CheckedIn op host conn errored)).commands
changes client moment w (fact.ConnShut host conn reason) = (beside-pool w moment (fact.ConnShut host conn reason)).commands
changes client moment w (fact.Leased op place lsid fresh) = refl
changes client moment w (fact.Drew op number) = refl
changes client moment w (fact.Returned op dirty kept) = refl
changes client moment w (fact.Asked place r) = asked-change moment r.purpose r.stream (record w { requests = w.requests + 1 })
changes client moment w (fact.Ended op end) = refl
changes client moment w (fact.Time stamp) = refl
changes client moment w (fact.Finished op outcome) = refl

change-get : (d : Change) (cs : List CommandState) (op : ℕ) → slice_get (with_change d cs) op ≡ option_map (change_to op d) (slice_get cs op)
change-get Still cs op = sym (map-same (slice_get cs op))
change-get (Of k g) cs op = changed-get cs k op g

event-get : (o : Option OfCommand) (v : ClientState) (op : ℕ) → slice_get (commands_after o v).commands op ≡ option_map (event_to op o) (slice_get v.commands op)
event-get None v op = sym (map-same (slice_get v.commands op))
event-get (Some e) v op = changed-get v.commands e.0 op (with_event e.1)

pub moves-get : (client : Client) (moment : ℕ) (w : ClientState) (f : Fact) (op : ℕ) →
    slice_get (client_after client moment w f).commands op ≡ option_map (moves client moment w f op) (slice_get w.commands op)
moves-get client moment w f op =
    event-get (command_step client w f) (changed_by client moment w f) op
    ∙ ap (option_map (event_to op (command_step client w f))) (ap (λ cs. slice_get cs op) (changes client moment w f) ∙ change-get (change_of moment w f) w.commands op)
    ∙ map-twice (change_to op (change_of moment w f)) (event_to op (command_step client w f)) (slice_get w.commands op)

-- ---- The sessions

check_out-sessions : (moment : ℕ) (w : ClientState) (f : Fact) → (check_out_after moment w f).sessions ≡ w.sessions
check_out-sessions moment w (fact.Entered op host ticket) = refl
check_out-sessions moment w (fact.Lent op host conn) = refl
check_out-sessions moment w (fact.Dialled op host conn stream) = refl
check_out-sessions moment w (fact.NotLent op host why) = refl
check_out-sessions moment w (fact.CheckedIn op host conn errored) = refl
check_out-sessions moment w f = refl

pool-sessions : (w : ClientState) (moment : ℕ) (f : Fact) → (pool_after w moment f).sessions ≡ w.sessions
pool-sessions w moment f = check_out-sessions moment (conn_streams_after (pools_after w moment (pool_step w f)) f) f ∙ (beside-pool w moment f).sessions

asked-sessions : (moment : ℕ) (p : Purpose) (stream : ℕ) (w : ClientState) → (asked_by moment p (farewell_by p stream w)).sessions ≡ w.sessions
asked-sessions moment (purpose.Command op) stream w = refl
asked-sessions moment (purpose.Check host) stream w = refl
asked-sessions moment (purpose.Greeting host conn) stream w = refl
asked-sessions moment purpose.Farewell stream w = refl

changed-sessions : (client : Client) (moment : ℕ) (w : ClientState) (f : Fact) → (changed_by client moment w f).sessions ≡ sessions_by moment (session_step w f) w.sessions
changed-sessions client moment w (fact.Offered place e taken) = (beside-offered moment e w).sessions
changed-sessions client moment w (fact.PoolReady host) = pool-sessions w moment (fact.PoolReady host)
changed-sessions client moment w (fact.PoolClear host) = pool-sessions w moment (fact.PoolClear host)
changed-sessions client moment w (fact.PoolShut host) = (beside-ends host w (pool_after w moment (fact.PoolShut host))).sessions ∙ pool-sessions w moment (fact.PoolShut host)
changed-sessions client moment w (fact.CheckBegan host stream) = (beside-taken (kept_at w host) stream w).sessions
changed-sessions client moment w (fact.Looked op a b kept picked) = (beside-look moment picked w).sessions
changed-sessions client moment w (fact.Entered op host ticket) = pool-sessions w moment (fact.Entered op host ticket)
changed-sessions client moment w (fact.Lent op host conn) = pool-sessions w moment (fact.Lent op host conn)
changed-sessions client moment w (fact.Dialled op host conn stream) = pool-sessions w moment (fact.Dialled op host conn stream)
changed-sessions client moment w (fact.Settled op host conn stale) = pool-sessions w moment (fact.Settled op host conn stale)
changed-sessions client moment w (fact.NotLent op host why) = pool-sessions w moment (fact.NotLent op host why)
changed-sessions client moment w (fact.CheckedIn op host conn errored) = pool-sessions w moment (fact.CheckedIn op host conn errored)
changed-sessions client moment w (fact.ConnShut host conn reason) = pool-sessions w moment (fact.ConnShut host conn reason)
changed-sessions client moment w (fact.Asked place r) = asked-sessions moment r.purpose r.stream (record w { requests = w.requests + 1 })
changed-sessions client moment w f = refl

events-sessions : (o : Option OfCommand) (v : ClientState) → (commands_after o v).sessions ≡ v.sessions
events-sessions None v = refl
events-sessions (Some e) v = refl

pub sessions-after : (client : Client) (moment : ℕ) (w : ClientState) (f : Fact) → (client_after client moment w f).sessions ≡ sessions_by moment (session_step w f) w.sessions
sessions-after client moment w f = events-sessions (command_step client w f) (changed_by client moment w f) ∙ changed-sessions client moment w f
