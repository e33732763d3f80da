-- The entries of each host's pool are a trail of that pool, which leads to the pool that the client has.
use Rattle.std.proofs.Common.{◌≡◌, ℕ, ◌+◌, Bool, true, false, List, [], ◌∷◌, ◌++◌, map, Option, None, Some, refl, sym, ap, ◌∙◌, subst, inl, inr}
use Rattle.std.specs.Prelude.{slice_get, if◌then◌else◌}
use Rattle.std.specs.Option.{option_map, option_and_then}
use Rattle.std.proofs.lemmas.Bool.Decides.{eqb_tells}
use Rattle.std.proofs.lemmas.Option.{slice_get-map}
use Rattle.entry_judge.specs.declared.timed.Timed.{Timed}
use Rattle.entry_judge.specs.Groups.{Place, Stands, next_place, nothing_owed}
use Rattle.pool_book.specs.Pool.{Pool, fresh_pool}
use Rattle.pool_book.specs.Entries.{PoolEntry}
use Rattle.pool_book.specs.Judge.{pool_judge, place_behind}
use Rattle.topo_rules.specs.declared.event.TopoEvent.{TopoEvent}
use Rattle.host_name.specs.Addresses.{Address}
use Rattle.desk_trail.specs.declared.entry.CheckHow.{CheckHow}
use Rattle.desk_trail.specs.declared.entry.CheckHow.TheVariants as how
use Rattle.desk_trail.specs.declared.entry.LookedHow.{LookedHow}
use Rattle.desk_trail.specs.declared.entry.LookedHow.TheVariants as looked
use Rattle.desk_trail.specs.declared.request.Purpose.{Purpose}
use Rattle.desk_trail.specs.declared.request.Purpose.TheVariants as purpose
use Rattle.desk_trail.specs.Attempts.{OfCommand, asked_by, command_step, commands_after}
use Rattle.desk_trail.specs.Checks.{asked, check_begins, check_ends, is_known_at, kept_at, leaves, stream_taken, with_checks}
use Rattle.watch_step.specs.Entries as check
use Rattle.desk_trail.specs.Clients.{Client, pool_rules}
use Rattle.desk_trail.specs.Facts.{Fact}
use Rattle.desk_trail.specs.Facts as fact
use Rattle.desk_trail.specs.Legal.{AreLegal, MayStand, Point, StandsAt, beginning, changed_by, client_after, ends_by, point_after, point_behind, pool_after, stays_at}
use Rattle.desk_trail.specs.Looks.{look_asks}
use Rattle.desk_trail.specs.Parts.{of_pool, pool_part, pool_tells}
use Rattle.desk_trail.specs.Pools.{OfHost, PoolAllows, check_out_after, conn_streams_after, pool_step, pools_after, with_pool}
use Rattle.desk_trail.specs.Requests.{farewell_by}
use Rattle.desk_trail.specs.States.{ClientState, ServerState, changed, number_of, fresh_server}
use Rattle.desk_trail.specs.Topologies.{asked_at, asks_of, offered_after, verdict_on, with_ask}
use Rattle.topo_book.specs.Fresh.{is_accepted_verdict}
use Rattle.desk_trail.proofs.PartLemmas.{Leads, told-leads}
use Rattle.desk_trail.proofs.ListLemmas.{changed-keeps, read-kept, changed-same, changed-other, slice_get-more}

-- ---- The pool of a host, fresh before it is named

abbrev pub pool_or : Client → Option ServerState → Place Pool PoolEntry
pool_or client None = nothing_owed (fresh_pool (pool_rules client))
pool_or client (Some s) = s.pool

abbrev pub pool_at : Client → List ServerState → ℕ → Place Pool PoolEntry
pool_at client servers host = pool_or client (slice_get servers host)

-- each server keeps its pool
abbrev pub Keeps : (ServerState → ServerState) → Type 0
Keeps f = (s : ServerState) → (f s).pool ≡ s.pool

pool-changed : (client : Client) (servers : List ServerState) (k host : ℕ) (f : ServerState → ServerState) → Keeps f →
    pool_at client (changed servers k f) host ≡ pool_at client servers host
pool-changed client servers k host f keeps = changed-keeps (pool_or client) servers k host f keeps

pool-mapped : (client : Client) (servers : List ServerState) (host : ℕ) (f : ServerState → ServerState) → Keeps f →
    pool_at client (map f servers) host ≡ pool_at client servers host
pool-mapped client servers host f keeps = ap (pool_or client) (slice_get-map f servers host) ∙ read-kept (pool_or client) f keeps (slice_get servers host)

pool-named : (client : Client) (servers : List ServerState) (moment : ℕ) (address : Address) (host : ℕ) →
    pool_at client (servers ++ fresh_server client moment address ∷ []) host ≡ pool_at client servers host
pool-named client servers moment address host = elim (slice_get-more servers (fresh_server client moment address) host) [
  | inl w ↦ ap (pool_or client) w
  | inr w ↦ ap (pool_or client) w.2 ∙ sym (ap (pool_or client) w.0)
]

-- ---- What keeps them

Keeps-leaves : Keeps leaves
Keeps-leaves s = refl

Keeps-asked : (moment : ℕ) → Keeps (asked moment)
Keeps-asked moment s =
    elim (s.has_left) as (λ b. (if b then s else with_checks moment check.Asked s).pool ≡ s.pool) [ true ↦ refl | false ↦ refl ]

Keeps-ends : (moment : ℕ) (h : CheckHow) (known : Bool) → Keeps (check_ends moment h known)
Keeps-ends moment how.NoDial known s = refl
Keeps-ends moment h known s = refl

stream_taken-servers : (kept : Option ℕ) (stream : ℕ) (w : ClientState) → (stream_taken kept stream w).servers ≡ w.servers
stream_taken-servers (Some x) stream w = refl
stream_taken-servers None stream w = refl

commands_after-servers : (o : Option OfCommand) (w : ClientState) → (commands_after o w).servers ≡ w.servers
commands_after-servers None w = refl
commands_after-servers (Some e) w = refl

check_out_after-servers : (moment : ℕ) (w : ClientState) (f : Fact) → (check_out_after moment w f).servers ≡ w.servers
check_out_after-servers moment w (fact.Entered op host ticket) = refl
check_out_after-servers moment w (fact.Lent op host conn) = refl
check_out_after-servers moment w (fact.Dialled op host conn stream) = refl
check_out_after-servers moment w (fact.NotLent op host why) = refl
check_out_after-servers moment w (fact.CheckedIn op host conn errored) = refl
check_out_after-servers moment w f = refl

ends_by-servers : (host : ℕ) (w v : ClientState) → (ends_by host w v).servers ≡ v.servers
ends_by-servers host w v =
    elim (stays_at (slice_get w.servers host)) as (λ b. (if b then record v { is_ending = true } else v).servers ≡ v.servers) [ true ↦ refl | false ↦ refl ]

asked_by-servers : (moment : ℕ) (p : Purpose) (w : ClientState) → (asked_by moment p w).servers ≡ w.servers
asked_by-servers moment (purpose.Command op) w = refl
asked_by-servers moment (purpose.Check host) w = refl
asked_by-servers moment (purpose.Greeting host conn) w = refl
asked_by-servers moment purpose.Farewell w = refl

farewell_by-servers : (p : Purpose) (stream : ℕ) (w : ClientState) → (farewell_by p stream w).servers ≡ w.servers
farewell_by-servers purpose.Farewell stream w = refl
farewell_by-servers (purpose.Check host) stream w = refl
farewell_by-servers (purpose.Greeting host conn) stream w = refl
farewell_by-servers (purpose.Command op) stream w = refl

conn_streams-pool : (client : Client) (w : ClientState) (f : Fact) (host : ℕ) →
    pool_at client (conn_streams_after w f).servers host ≡ pool_at client w.servers host
conn_streams-pool client w (fact.Dialled op h conn (Some stream)) host = pool-changed client w.servers h host (λ s. record s { conn_streams = record { conn = conn; stream = stream } ∷ s.conn_streams }) (λ s. refl)
conn_streams-pool client w (fact.Dialled op h conn None) host = refl
conn_streams-pool client w f host = refl

looks-pool : (client : Client) (moment : ℕ) (h : LookedHow) (w : ClientState) (host : ℕ) →
    pool_at client (look_asks moment h w).servers host ≡ pool_at client w.servers host
looks-pool client moment looked.NoneFits w host = pool-mapped client w.servers host (asked moment) (Keeps-asked moment)
looks-pool client moment (looked.Chosen x) w host = refl
looks-pool client moment looked.Failed w host = refl
looks-pool client moment (looked.Incompatible x) w host = refl

ask-pool : (client : Client) (moment : ℕ) (o : Option ℕ) (w : ClientState) (host : ℕ) →
    pool_at client (asked_at moment o w).servers host ≡ pool_at client w.servers host
ask-pool client moment None w host = refl
ask-pool client moment (Some x) w host = pool-changed client w.servers x host (asked moment) (Keeps-asked moment)

offered-pool : (client : Client) (moment : ℕ) (e : TopoEvent) (w : ClientState) (host : ℕ) →
    pool_at client (offered_after moment e w).servers host ≡ pool_at client w.servers host
offered-pool client moment e w host =
    elim (is_accepted_verdict (verdict_on w e)) as (λ b. pool_at client (if b then with_ask moment e w else w).servers host ≡ pool_at client w.servers host) [
      | true ↦ ask-pool client moment (option_and_then (number_of w) (asks_of e)) w host
      | false ↦ refl
    ]

-- ---- An entry of a pool moves that pool

abbrev pub PoolLeads : Client → ℕ → ℕ → ClientState → Option OfHost → ClientState → Type 0
PoolLeads client host moment w o v =
    Leads (Stands pool_judge) (next_place pool_judge) (pool_at client w.servers host) (of_pool host moment o) (pool_at client v.servers host)

pool-moves : (client : Client) (host moment : ℕ) (w : ClientState) (o : Option OfHost) → PoolAllows w moment o → PoolLeads client host moment w o (pools_after w moment o)
pool-moves client host moment w None a = absurd a
pool-moves client host moment w (Some e) (s, there, stands) =
    let t : Timed PoolEntry = record { at = moment; what = e.1 } in
    elim (eqb_tells e.0 host) [
      | inl x ↦
          let old : pool_at client w.servers host ≡ s.pool = subst (λ n. pool_at client w.servers n ≡ s.pool) x.1 (ap (pool_or client) there) in
          let new : pool_at client (changed w.servers e.0 (with_pool moment e.1)) host ≡ next_place pool_judge s.pool t =
          subst (λ n. pool_at client (changed w.servers e.0 (with_pool moment e.1)) n ≡ next_place pool_judge s.pool t) x.1
          (ap (pool_or client) (changed-same w.servers e.0 (with_pool moment e.1) ∙ ap (λ o. option_map (with_pool moment e.1) o) there)) in
          rw x.0 (record {
            legal = (subst (λ q. Stands pool_judge q t) (sym old) stands, tt);
            to = new ∙ ap (λ q. next_place pool_judge q t) (sym old);
          })
      | inr x ↦ rw x.0 (record { legal = tt; to = ap (pool_or client) (changed-other w.servers e.0 host (with_pool moment e.1) x.1) })
    ]

-- with all that comes with it
led-on : (client : Client) (host moment : ℕ) (w v u : ClientState) (o : Option OfHost) → PoolLeads client host moment w o v →
    pool_at client u.servers host ≡ pool_at client v.servers host → PoolLeads client host moment w o u
led-on client host moment w v u o l e = record { legal = l.legal; to = e ∙ l.to }

pool_after-moves : (client : Client) (host moment : ℕ) (w : ClientState) (f : Fact) → PoolAllows w moment (pool_step w f) →
    PoolLeads client host moment w (pool_step w f) (pool_after w moment f)
pool_after-moves client host moment w f a =
    let v = pools_after w moment (pool_step w f) in
    led-on client host moment w v (pool_after w moment f) (pool_step w f) (pool-moves client host moment w (pool_step w f) a)
    (ap (λ ss. pool_at client ss host) (check_out_after-servers moment (conn_streams_after v f) f) ∙ conn_streams-pool client v f host)

changed-moves : (client : Client) (host : ℕ) (p : Point) (moment : ℕ) (f : Fact) → MayStand client p moment f →
    PoolLeads client host moment p.state (pool_step p.state f) (changed_by client moment p.state f)
changed-moves client host p moment (fact.Named x address) m = record { legal = tt; to = pool-named client p.state.servers moment address host }
changed-moves client host p moment (fact.Dropped x) m = record { legal = tt; to = pool-changed client p.state.servers x host leaves Keeps-leaves }
changed-moves client host p moment (fact.Offered place e taken) m = record { legal = tt; to = offered-pool client moment e p.state host }
changed-moves client host p moment (fact.PoolReady x) m = pool_after-moves client host moment p.state (fact.PoolReady x) m
changed-moves client host p moment (fact.PoolClear x) m = pool_after-moves client host moment p.state (fact.PoolClear x) m
changed-moves client host p moment (fact.PoolShut x) m =
    led-on client host moment p.state (pool_after p.state moment (fact.PoolShut x))
    (ends_by x p.state (pool_after p.state moment (fact.PoolShut x))) (pool_step p.state (fact.PoolShut x)) (pool_after-moves client host moment p.state (fact.PoolShut x) m)
    (ap (λ ss. pool_at client ss host) (ends_by-servers x p.state (pool_after p.state moment (fact.PoolShut x))))
changed-moves client host p moment (fact.CheckBegan x stream) m =
    let w = stream_taken (kept_at p.state x) stream p.state in
    record {
      legal = tt;
      to = pool-changed client w.servers x host (check_begins moment stream) (λ s. refl)
          ∙ ap (λ ss. pool_at client ss host) (stream_taken-servers (kept_at p.state x) stream p.state);
    }
changed-moves client host p moment (fact.CheckDry x) m = record { legal = tt; to = pool-changed client p.state.servers x host (λ s. record s { dry = Some moment }) (λ s. refl) }
changed-moves client host p moment (fact.CheckEnded x h) m =
    record { legal = tt; to = pool-changed client p.state.servers x host (check_ends moment h (is_known_at p.state x)) (Keeps-ends moment h (is_known_at p.state x)) }
changed-moves client host p moment (fact.Looked op a b kept picked) m = record { legal = tt; to = looks-pool client moment picked p.state host }
changed-moves client host p moment (fact.Entered op x ticket) m = pool_after-moves client host moment p.state (fact.Entered op x ticket) m.1
changed-moves client host p moment (fact.Lent op x conn) m = pool_after-moves client host moment p.state (fact.Lent op x conn) m
changed-moves client host p moment (fact.Dialled op x conn stream) m = pool_after-moves client host moment p.state (fact.Dialled op x conn stream) m.1
changed-moves client host p moment (fact.Settled op x conn stale) m = pool_after-moves client host moment p.state (fact.Settled op x conn stale) m
changed-moves client host p moment (fact.NotLent op x why) m = pool_after-moves client host moment p.state (fact.NotLent op x why) m
changed-moves client host p moment (fact.CheckedIn op x conn errored) m = pool_after-moves client host moment p.state (fact.CheckedIn op x conn errored) m
changed-moves client host p moment (fact.ConnShut x conn reason) m = pool_after-moves client host moment p.state (fact.ConnShut x conn reason) m
changed-moves client host p moment (fact.Leased op place lsid fresh) m = record { legal = tt; to = refl }
changed-moves client host p moment (fact.Drew op number) m = record { legal = tt; to = refl }
changed-moves client host p moment (fact.Returned op dirty kept) m = record { legal = tt; to = refl }
changed-moves client host p moment (fact.Asked place r) m =
    let w : ClientState = record p.state { requests = p.state.requests + 1 } in
    record {
      legal = tt;
      to = ap (λ ss. pool_at client ss host)
          (asked_by-servers moment r.purpose (farewell_by r.purpose r.stream w) ∙ farewell_by-servers r.purpose r.stream w);
    }
changed-moves client host p moment (fact.Ended op end) m = record { legal = tt; to = refl }
changed-moves client host p moment (fact.Time stamp) m = record { legal = tt; to = refl }
changed-moves client host p moment (fact.Finished op outcome) m = record { legal = tt; to = refl }

pub pool-step-leads : (client : Client) (host : ℕ) (p : Point) (t : Timed Fact) → StandsAt client p t →
    Leads (Stands pool_judge) (next_place pool_judge) (pool_at client p.state.servers host) (pool_tells host p t)
    (pool_at client (point_after client p t).state.servers host)
pool-step-leads client host p t s =
    let v = changed_by client t.at p.state t.what in
    led-on client host t.at p.state v (client_after client t.at p.state t.what) (pool_step p.state t.what)
    (changed-moves client host p t.at t.what s.rule)
    (ap (λ ss. pool_at client ss host) (commands_after-servers (command_step client p.state t.what) v))

-- ---- The trail of a host's pool

pub pool-leads : (client : Client) (host : ℕ) (ts : List (Timed Fact)) → AreLegal client ts →
    Leads (Stands pool_judge) (next_place pool_judge) (nothing_owed (fresh_pool (pool_rules client))) (pool_part client host ts)
    (pool_at client (point_behind client ts).state.servers host)
pool-leads client host ts l =
    told-leads client (pool_tells host) (Stands pool_judge) (next_place pool_judge) (λ p. pool_at client p.state.servers host)
    (pool-step-leads client host) (beginning client) ts l

pub pool-place : (client : Client) (host : ℕ) (ts : List (Timed Fact)) (s : ServerState) → AreLegal client ts →
    slice_get (point_behind client ts).state.servers host ≡ Some s → s.pool ≡ place_behind (pool_rules client) (pool_part client host ts)
pool-place client host ts s l there = sym (ap (pool_or client) there) ∙ (pool-leads client host ts l).to
