-- The streams that were dialled, behind one more entry.
use Rattle.std.proofs.Common.{◌≡◌, ℕ, ◌+◌, Bool, true, false, List, [], ◌∷◌, ◌++◌, Option, None, Some, refl, ap, ◌∙◌}
use Rattle.std.specs.Prelude.{slice_get, option_to_list, if◌then◌else◌}
use Rattle.std.specs.Option.{option_and_then}
use Rattle.topo_rules.specs.declared.event.TopoEvent.{TopoEvent}
use Rattle.desk_trail.specs.declared.entry.LookedHow.{LookedHow}
use Rattle.desk_trail.specs.declared.entry.LookedHow.TheVariants as looked
use Rattle.desk_trail.specs.declared.request.Purpose.{Purpose}
use Rattle.desk_trail.specs.declared.request.Purpose.TheVariants as purpose
use Rattle.desk_trail.specs.Attempts.{OfCommand, asked_by, command_step, commands_after}
use Rattle.desk_trail.specs.Checks.{kept_at, stream_taken}
use Rattle.desk_trail.specs.Clients.{Client}
use Rattle.desk_trail.specs.Facts.{Fact}
use Rattle.desk_trail.specs.Facts as fact
use Rattle.desk_trail.specs.Legal.{changed_by, client_after, ends_by, pool_after, stays_at}
use Rattle.desk_trail.specs.Looks.{look_asks}
use Rattle.desk_trail.specs.Pools.{OfHost, check_out_after, conn_streams_after, pool_step, pools_after}
use Rattle.desk_trail.specs.Requests.{farewell_by}
use Rattle.desk_trail.specs.States.{ClientState, number_of}
use Rattle.desk_trail.specs.Topologies.{asked_at, asks_of, offered_after, with_ask}

-- the streams that an entry begins to use: that of a check which kept none, and that of a new connection
abbrev pub taken : Option ℕ → ℕ → List ℕ
taken (Some kept) stream = []
taken None stream = stream ∷ []

abbrev pub new_streams : ClientState → Fact → List ℕ
new_streams w (fact.CheckBegan host stream) = taken (kept_at w host) stream
new_streams w (fact.Dialled op host conn stream) = option_to_list stream
new_streams w f = []

-- ---- What an entry leaves as it is

check_out-same : (moment : ℕ) (w : ClientState) (f : Fact) → (check_out_after moment w f).streams ≡ w.streams
check_out-same moment w (fact.Entered op host ticket) = refl
check_out-same moment w (fact.Lent op host conn) = refl
check_out-same moment w (fact.Dialled op host conn stream) = refl
check_out-same moment w (fact.NotLent op host why) = refl
check_out-same moment w (fact.CheckedIn op host conn errored) = refl
check_out-same moment w f = refl

pools-same : (w : ClientState) (moment : ℕ) (o : Option OfHost) → (pools_after w moment o).streams ≡ w.streams
pools-same w moment None = refl
pools-same w moment (Some e) = refl

ends_by-same : (host : ℕ) (w v : ClientState) → (ends_by host w v).streams ≡ v.streams
ends_by-same host w v =
    elim (stays_at (slice_get w.servers host)) as (λ b. (if b then record v { is_ending = true } else v).streams ≡ v.streams) [
      | true ↦ refl
      | false ↦ refl
    ]

farewell_by-same : (p : Purpose) (stream : ℕ) (w : ClientState) → (farewell_by p stream w).streams ≡ w.streams
farewell_by-same purpose.Farewell stream w = refl
farewell_by-same (purpose.Check host) stream w = refl
farewell_by-same (purpose.Greeting host conn) stream w = refl
farewell_by-same (purpose.Command op) stream w = refl

asked_by-same : (moment : ℕ) (p : Purpose) (w : ClientState) → (asked_by moment p w).streams ≡ w.streams
asked_by-same moment (purpose.Command op) w = refl
asked_by-same moment (purpose.Check host) w = refl
asked_by-same moment (purpose.Greeting host conn) w = refl
asked_by-same moment purpose.Farewell w = refl

look_asks-same : (moment : ℕ) (h : LookedHow) (w : ClientState) → (look_asks moment h w).streams ≡ w.streams
look_asks-same moment looked.NoneFits w = refl
look_asks-same moment (looked.Chosen x) w = refl
look_asks-same moment looked.Failed w = refl
look_asks-same moment (looked.Incompatible x) w = refl

asked_at-same : (moment : ℕ) (o : Option ℕ) (w : ClientState) → (asked_at moment o w).streams ≡ w.streams
asked_at-same moment None w = refl
asked_at-same moment (Some x) w = refl

if-same : (b : Bool) (v w : ClientState) → v.streams ≡ w.streams → (if b then v else w).streams ≡ w.streams
if-same true v w e = e
if-same false v w e = refl

offered-same : (moment : ℕ) (e : TopoEvent) (w : ClientState) → (offered_after moment e w).streams ≡ w.streams
offered-same moment e w = if-same _ (with_ask moment e w) w (asked_at-same moment (option_and_then (number_of w) (asks_of e)) w)

command-same : (o : Option OfCommand) (w : ClientState) → (commands_after o w).streams ≡ w.streams
command-same None w = refl
command-same (Some e) w = refl

-- ---- Each kind

stream_taken-adds : (kept : Option ℕ) (stream : ℕ) (w : ClientState) → (stream_taken kept stream w).streams ≡ taken kept stream ++ w.streams
stream_taken-adds (Some x) stream w = refl
stream_taken-adds None stream w = refl

conn_streams-adds : (w v : ClientState) (f : Fact) (op host conn : ℕ) (stream : Option ℕ) → v.streams ≡ w.streams →
    (conn_streams_after v (fact.Dialled op host conn stream)).streams ≡ option_to_list stream ++ w.streams
conn_streams-adds w v f op host conn None e = e
conn_streams-adds w v f op host conn (Some stream) e = ap (λ ss. stream ∷ ss) e

pool-same : (w : ClientState) (moment : ℕ) (f : Fact) → (conn_streams_after (pools_after w moment (pool_step w f)) f).streams ≡ (pools_after w moment (pool_step w f)).streams →
    (pool_after w moment f).streams ≡ w.streams
pool-same w moment f same =
    check_out-same moment (conn_streams_after (pools_after w moment (pool_step w f)) f) f ∙ same ∙ pools-same w moment (pool_step w f)

changed-adds : (client : Client) (moment : ℕ) (w : ClientState) (f : Fact) → (changed_by client moment w f).streams ≡ new_streams w f ++ w.streams
changed-adds client moment w (fact.Named x address) = refl
changed-adds client moment w (fact.Dropped x) = refl
changed-adds client moment w (fact.Offered place e how) = offered-same moment e w
changed-adds client moment w (fact.PoolReady x) = pool-same w moment (fact.PoolReady x) refl
changed-adds client moment w (fact.PoolClear x) = pool-same w moment (fact.PoolClear x) refl
changed-adds client moment w (fact.PoolShut x) =
    ends_by-same x w (pool_after w moment (fact.PoolShut x)) ∙ pool-same w moment (fact.PoolShut x) refl
changed-adds client moment w (fact.CheckBegan x stream) = stream_taken-adds (kept_at w x) stream w
changed-adds client moment w (fact.CheckDry x) = refl
changed-adds client moment w (fact.CheckEnded x h) = refl
changed-adds client moment w (fact.Looked k x y ks picked) = look_asks-same moment picked w
changed-adds client moment w (fact.Entered k x ticket) = pool-same w moment (fact.Entered k x ticket) refl
changed-adds client moment w (fact.Lent k x conn) = pool-same w moment (fact.Lent k x conn) refl
changed-adds client moment w (fact.Dialled k x conn stream) =
    let f = fact.Dialled k x conn stream in
    check_out-same moment (conn_streams_after (pools_after w moment (pool_step w f)) f) f
    ∙ conn_streams-adds w (pools_after w moment (pool_step w f)) f k x conn stream (pools-same w moment (pool_step w f))
changed-adds client moment w (fact.Settled k x conn stale) = pool-same w moment (fact.Settled k x conn stale) refl
changed-adds client moment w (fact.NotLent k x why) = pool-same w moment (fact.NotLent k x why) refl
changed-adds client moment w (fact.CheckedIn k x conn errored) = pool-same w moment (fact.CheckedIn k x conn errored) refl
changed-adds client moment w (fact.ConnShut x conn reason) = pool-same w moment (fact.ConnShut x conn reason) refl
changed-adds client moment w (fact.Leased k place lsid fresh) = refl
changed-adds client moment w (fact.Drew k number) = refl
changed-adds client moment w (fact.Returned k dirty ks) = refl
changed-adds client moment w (fact.Asked place x) =
    let v : ClientState = record w { requests = w.requests + 1 } in
    asked_by-same moment x.purpose (farewell_by x.purpose x.stream v) ∙ farewell_by-same x.purpose x.stream v
changed-adds client moment w (fact.Ended k end) = refl
changed-adds client moment w (fact.Time stamp) = refl
changed-adds client moment w (fact.Finished k outcome) = refl

pub client-adds : (client : Client) (moment : ℕ) (w : ClientState) (f : Fact) → (client_after client moment w f).streams ≡ new_streams w f ++ w.streams
client-adds client moment w f = command-same (command_step client w f) (changed_by client moment w f) ∙ changed-adds client moment w f
