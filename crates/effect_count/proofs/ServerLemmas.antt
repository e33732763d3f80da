-- What each entry does to the streams of a server: those of its connections, and that of its checks.
use Rattle.std.proofs.Common.{◌≡◌, ◌⊎◌, inl, inr, ℕ, zero, suc, ◌+◌, Bool, true, false, List, [], ◌∷◌, ◌++◌, map, Option, None, Some, refl, sym, ap, ◌∙◌, subst}
use Rattle.std.specs.Prelude.{◌==◌, slice_get, find, if◌then◌else◌}
use Rattle.std.specs.Option.{option_and_then, option_map}
use Rattle.std.proofs.lemmas.Bool.Decides.{eqb_tells}
use Rattle.topo_rules.specs.declared.event.TopoEvent.{TopoEvent}
use Rattle.watch_step.specs.Entries as check
use Rattle.desk_trail.specs.declared.entry.CheckHow.{CheckHow}
use Rattle.desk_trail.specs.declared.entry.CheckHow.TheVariants as how
use Rattle.desk_trail.specs.declared.entry.LookedHow.{LookedHow}
use Rattle.desk_trail.specs.declared.entry.LookedHow.TheVariants as looked
use Rattle.desk_trail.specs.declared.request.Purpose.{Purpose}
use Rattle.desk_trail.specs.declared.request.Purpose.TheVariants as purpose
use Rattle.desk_trail.specs.Attempts.{OfCommand, asked_by, command_step, commands_after}
use Rattle.desk_trail.specs.Checks.{asked, check_begins, check_ends, is_known_at, kept_at, leaves, stream_kept, stream_taken, with_checks}
use Rattle.desk_trail.specs.Clients.{Client}
use Rattle.desk_trail.specs.Facts.{Fact}
use Rattle.desk_trail.specs.Facts as fact
use Rattle.desk_trail.specs.Legal.{changed_by, client_after, ends_by, pool_after, stays_at}
use Rattle.desk_trail.specs.Looks.{look_asks}
use Rattle.desk_trail.specs.Pools.{OfHost, check_out_after, conn_streams_after, pool_step, pools_after, with_pool}
use Rattle.desk_trail.specs.Requests.{farewell_by}
use Rattle.desk_trail.specs.States.{ClientState, ConnStream, ServerState, changed, fresh_server, number_of, stream_of, with_server}
use Rattle.desk_trail.specs.Streams.{conn_stream_at}
use Rattle.desk_trail.specs.Topologies.{asked_at, asks_of, offered_after, with_ask}
use Rattle.effect_count.proofs.ListLemmas.{changed-keeps, changed-other, changed-same}

-- ---- The streams of a server

abbrev pub Lines : Type 0
Lines = List ConnStream × Option ℕ

abbrev pub lines_in : Option ServerState → Lines
lines_in None = ([], None)
lines_in (Some s) = (s.conn_streams, s.check_stream)

abbrev pub lines_at : ClientState → ℕ → Lines
lines_at w y = lines_in (slice_get w.servers y)

abbrev pub stream_in : List ConnStream → ℕ → Option ℕ
stream_in ls conn = option_map (λ (l : ConnStream). l.stream) (find (λ (l : ConnStream). l.conn == conn) ls)

pub conn-by : (w : ClientState) (host conn : ℕ) → conn_stream_at w host conn ≡ stream_in (lines_at w host).0 conn
conn-by w host conn = by (slice_get w.servers host)
  where
    by : (o : Option ServerState) → option_and_then (λ (s : ServerState). stream_of s conn) o ≡ stream_in (lines_in o).0 conn
    by None = refl
    by (Some s) = refl

pub kept-by : (w : ClientState) (host : ℕ) → kept_at w host ≡ (lines_at w host).1
kept-by w host = by (slice_get w.servers host)
  where
    by : (o : Option ServerState) → stream_kept o ≡ (lines_in o).1
    by None = refl
    by (Some s) = refl

-- a change of one server keeps them
server-kept : (w : ClientState) (host : ℕ) (f : ServerState → ServerState) (y : ℕ) → ((s : ServerState) → lines_in (Some (f s)) ≡ lines_in (Some s)) →
    lines_at (with_server w host f) y ≡ lines_at w y
server-kept w host f y keeps = changed-keeps lines_in w.servers host y f keeps

same-servers : (w v : ClientState) (y : ℕ) → v.servers ≡ w.servers → lines_at v y ≡ lines_at w y
same-servers w v y e = ap (λ ss. lines_in (slice_get ss y)) e

-- ---- Entries of pools

check_out-servers : (moment : ℕ) (w : ClientState) (f : Fact) → (check_out_after moment w f).servers ≡ w.servers
check_out-servers moment w (fact.Entered op host ticket) = refl
check_out-servers moment w (fact.Lent op host conn) = refl
check_out-servers moment w (fact.Dialled op host conn stream) = refl
check_out-servers moment w (fact.NotLent op host why) = refl
check_out-servers moment w (fact.CheckedIn op host conn errored) = refl
check_out-servers moment w f = refl

pools-kept : (w : ClientState) (moment : ℕ) (o : Option OfHost) (y : ℕ) → lines_at (pools_after w moment o) y ≡ lines_at w y
pools-kept w moment None y = refl
pools-kept w moment (Some e) y = server-kept w e.0 (with_pool moment e.1) y (λ s. refl)

-- one that dials no stream
pool-kept : (w : ClientState) (moment : ℕ) (f : Fact) (y : ℕ) →
    conn_streams_after (pools_after w moment (pool_step w f)) f ≡ pools_after w moment (pool_step w f) → lines_at (pool_after w moment f) y ≡ lines_at w y
pool-kept w moment f y same =
    let v = pools_after w moment (pool_step w f) in
    let u = conn_streams_after v f in
    same-servers u (check_out_after moment u f) y (check_out-servers moment u f) ∙ ap (λ (x : ClientState). lines_at x y) same ∙ pools-kept w moment (pool_step w f) y

ends-kept : (host : ℕ) (w v : ClientState) (y : ℕ) → lines_at (ends_by host w v) y ≡ lines_at v y
ends-kept host w v y = by (stays_at (slice_get w.servers host))
  where
    by : (b : Bool) → lines_at (if b then record v { is_ending = true } else v) y ≡ lines_at v y
    by true = refl
    by false = refl

-- ---- Entries of checks, looks and events

pub taken-servers : (o : Option ℕ) (stream : ℕ) (w : ClientState) → (stream_taken o stream w).servers ≡ w.servers
taken-servers None stream w = refl
taken-servers (Some kept) stream w = refl

asked-keeps : (moment : ℕ) (s : ServerState) → lines_in (Some (asked moment s)) ≡ lines_in (Some s)
asked-keeps moment s = by s.has_left
  where
    by : (b : Bool) → lines_in (Some (if b then s else with_checks moment check.Asked s)) ≡ lines_in (Some s)
    by true = refl
    by false = refl

map-keeps : (f : ServerState → ServerState) → ((s : ServerState) → lines_in (Some (f s)) ≡ lines_in (Some s)) → (ss : List ServerState) (y : ℕ) →
    lines_in (slice_get (map f ss) y) ≡ lines_in (slice_get ss y)
map-keeps f keeps [] y = refl
map-keeps f keeps (s ∷ ss) zero = keeps s
map-keeps f keeps (s ∷ ss) (suc y) = map-keeps f keeps ss y

look-kept : (moment : ℕ) (h : LookedHow) (w : ClientState) (y : ℕ) → lines_at (look_asks moment h w) y ≡ lines_at w y
look-kept moment looked.NoneFits w y = map-keeps (asked moment) (asked-keeps moment) w.servers y
look-kept moment (looked.Chosen host) w y = refl
look-kept moment looked.Failed w y = refl
look-kept moment (looked.Incompatible host) w y = refl

asked_at-kept : (moment : ℕ) (o : Option ℕ) (w : ClientState) (y : ℕ) → lines_at (asked_at moment o w) y ≡ lines_at w y
asked_at-kept moment None w y = refl
asked_at-kept moment (Some host) w y = server-kept w host (asked moment) y (asked-keeps moment)

if-kept : (b : Bool) (v w : ClientState) (y : ℕ) → lines_at v y ≡ lines_at w y → lines_at (if b then v else w) y ≡ lines_at w y
if-kept true v w y e = e
if-kept false v w y e = refl

offered-kept : (moment : ℕ) (e : TopoEvent) (w : ClientState) (y : ℕ) → lines_at (offered_after moment e w) y ≡ lines_at w y
offered-kept moment e w y = if-kept _ (with_ask moment e w) w y (asked_at-kept moment (option_and_then (number_of w) (asks_of e)) w y)

-- ---- Requests

asked_by-servers : (moment : ℕ) (p : Purpose) (w : ClientState) → (asked_by moment p w).servers ≡ w.servers
asked_by-servers moment (purpose.Command op) w = refl
asked_by-servers moment (purpose.Check host) w = refl
asked_by-servers moment (purpose.Greeting host conn) w = refl
asked_by-servers moment purpose.Farewell w = refl

farewell-servers : (p : Purpose) (stream : ℕ) (w : ClientState) → (farewell_by p stream w).servers ≡ w.servers
farewell-servers (purpose.Command op) stream w = refl
farewell-servers (purpose.Check host) stream w = refl
farewell-servers (purpose.Greeting host conn) stream w = refl
farewell-servers purpose.Farewell stream w = refl

-- ---- A server that is named

more-lines : (ss : List ServerState) (s : ServerState) (y : ℕ) → lines_in (Some s) ≡ lines_in None → lines_in (slice_get (ss ++ s ∷ []) y) ≡ lines_in (slice_get ss y)
more-lines [] s zero e = e
more-lines [] s (suc y) e = refl
more-lines (x ∷ xs) s zero e = refl
more-lines (x ∷ xs) s (suc y) e = more-lines xs s y e

-- ---- All entries but those that drop a host, and those that begin or end a check or dial a connection

abbrev pub is_quiet : Fact → Bool
is_quiet (fact.Dropped host) = false
is_quiet (fact.CheckBegan host stream) = false
is_quiet (fact.CheckEnded host h) = false
is_quiet (fact.Dialled op host conn stream) = false
is_quiet f = true

changed-kept : (client : Client) (moment : ℕ) (w : ClientState) (f : Fact) (y : ℕ) → is_quiet f ≡ true → lines_at (changed_by client moment w f) y ≡ lines_at w y
changed-kept client moment w (fact.Dropped host) y q = absurd (cc)
changed-kept client moment w (fact.CheckBegan host stream) y q = absurd (cc)
changed-kept client moment w (fact.CheckEnded host h) y q = absurd (cc)
changed-kept client moment w (fact.Dialled op host conn stream) y q = absurd (cc)
changed-kept client moment w (fact.Named host address) y q = more-lines w.servers (fresh_server client moment address) y refl
changed-kept client moment w (fact.Offered place event taken) y q = offered-kept moment event w y
changed-kept client moment w (fact.PoolReady host) y q = pool-kept w moment (fact.PoolReady host) y refl
changed-kept client moment w (fact.PoolClear host) y q = pool-kept w moment (fact.PoolClear host) y refl
changed-kept client moment w (fact.PoolShut host) y q = ends-kept host w (pool_after w moment (fact.PoolShut host)) y ∙ pool-kept w moment (fact.PoolShut host) y refl
changed-kept client moment w (fact.CheckDry host) y q = server-kept w host (λ s. record s { dry = Some moment }) y (λ s. refl)
changed-kept client moment w (fact.Looked op a b kept picked) y q = look-kept moment picked w y
changed-kept client moment w (fact.Entered op host ticket) y q = pool-kept w moment (fact.Entered op host ticket) y refl
changed-kept client moment w (fact.Lent op host conn) y q = pool-kept w moment (fact.Lent op host conn) y refl
changed-kept client moment w (fact.Settled op host conn stale) y q = pool-kept w moment (fact.Settled op host conn stale) y refl
changed-kept client moment w (fact.NotLent op host why) y q = pool-kept w moment (fact.NotLent op host why) y refl
changed-kept client moment w (fact.CheckedIn op host conn errored) y q = pool-kept w moment (fact.CheckedIn op host conn errored) y refl
changed-kept client moment w (fact.ConnShut host conn reason) y q = pool-kept w moment (fact.ConnShut host conn reason) y refl
changed-kept client moment w (fact.Asked place r) y q =
    let v : ClientState = record w { requests = w.requests + 1 } in
    let u = farewell_by r.purpose r.stream v in
    same-servers w (asked_by moment r.purpose u) y (asked_by-servers moment r.purpose u ∙ farewell-servers r.purpose r.stream v)
changed-kept client moment w f y q = refl

events-kept : (o : Option OfCommand) (v : ClientState) → (commands_after o v).servers ≡ v.servers
events-kept None v = refl
events-kept (Some e) v = refl

quiet-kept : (client : Client) (moment : ℕ) (w : ClientState) (f : Fact) (y : ℕ) → is_quiet f ≡ true → lines_at (client_after client moment w f) y ≡ lines_at w y
quiet-kept client moment w f y q =
    let v = changed_by client moment w f in
    same-servers v (commands_after (command_step client w f) v) y (events-kept (command_step client w f) v) ∙ changed-kept client moment w f y q

-- ---- Each entry

-- the streams of connections stay, one that is dialled aside
abbrev pub is_dial : Fact → Bool
is_dial (fact.Dialled op host conn stream) = true
is_dial f = false

abbrev conns_in : Option ServerState → List ConnStream
conns_in o = (lines_in o).0

end-conns : (moment : ℕ) (h : CheckHow) (known : Bool) (s : ServerState) → conns_in (Some (check_ends moment h known s)) ≡ conns_in (Some s)
end-conns moment (how.Reply sample) known s = refl
end-conns moment (how.Refused code) known s = refl
end-conns moment how.Cut known s = refl
end-conns moment how.Fault known s = refl
end-conns moment how.Late known s = refl
end-conns moment (how.Bad at) known s = refl
end-conns moment how.NoDial known s = refl

lists-kept : (client : Client) (moment : ℕ) (w : ClientState) (f : Fact) (y : ℕ) → is_dial f ≡ false → (lines_at (client_after client moment w f) y).0 ≡ (lines_at w y).0
lists-kept client moment w (fact.Dialled op host conn stream) y q = absurd (cc)
lists-kept client moment w (fact.Dropped host) y q = changed-keeps conns_in w.servers host y leaves (λ s. refl)
lists-kept client moment w (fact.CheckBegan host stream) y q =
    changed-keeps conns_in (stream_taken (kept_at w host) stream w).servers host y (check_begins moment stream) (λ s. refl)
    ∙ ap (λ ss. conns_in (slice_get ss y)) (taken-servers (kept_at w host) stream w)
lists-kept client moment w (fact.CheckEnded host h) y q =
    changed-keeps conns_in w.servers host y (check_ends moment h (is_known_at w host)) (end-conns moment h (is_known_at w host))
lists-kept client moment w f y q = ap (λ (l : Lines). l.0) (quiet-kept client moment w f y refl)

pub conns-kept : (client : Client) (moment : ℕ) (w : ClientState) (f : Fact) (host conn : ℕ) → is_dial f ≡ false →
    conn_stream_at (client_after client moment w f) host conn ≡ conn_stream_at w host conn
conns-kept client moment w f host conn q =
    let v = client_after client moment w f in
    conn-by v host conn ∙ ap (λ ls. stream_in ls conn) (lists-kept client moment w f host q) ∙ sym (conn-by w host conn)

-- a connection that is dialled has its stream
pub data Dials (w v : ClientState) (host conn : ℕ) (stream : Option ℕ) (h c : ℕ) : Type 0 where
  other : conn_stream_at v h c ≡ conn_stream_at w h c → Dials w v host conn stream h c
  own : h ≡ host → c ≡ conn → conn_stream_at v h c ≡ stream → Dials w v host conn stream h c

abbrev new_line : ℕ → ℕ → ServerState → ServerState
new_line conn stream s = record s { conn_streams = record { conn = conn; stream = stream } ∷ s.conn_streams }

new-lines : (ls : List ConnStream) (conn stream c : ℕ) → (stream_in (record { conn = conn; stream = stream } ∷ ls) c ≡ stream_in ls c) ⊎ (c ≡ conn) × (stream_in (record { conn = conn; stream = stream } ∷ ls) c ≡ Some stream)
new-lines ls conn stream c = elim (eqb_tells conn c) [
  | inl x ↦ inr (sym x.1, rw x.0 refl)
  | inr x ↦ inl (rw x.0 refl)
]

line-at : (ss : List ServerState) (host conn stream h c : ℕ) →
    (stream_in (conns_in (slice_get (changed ss host (new_line conn stream)) h)) c ≡ stream_in (conns_in (slice_get ss h)) c)
    ⊎ (h ≡ host) × (c ≡ conn) × (stream_in (conns_in (slice_get (changed ss host (new_line conn stream)) h)) c ≡ Some stream)
line-at ss host conn stream h c = elim (eqb_tells host h) [
  | inl x ↦ own x.1
  | inr x ↦ inl (ap (λ o. stream_in (conns_in o) c) (changed-other ss host h (new_line conn stream) x.1))
] where
  by : (o : Option ServerState) → (stream_in (conns_in (option_map (new_line conn stream) o)) c ≡ stream_in (conns_in o) c)
      ⊎ (c ≡ conn) × (stream_in (conns_in (option_map (new_line conn stream) o)) c ≡ Some stream)
  by None = inl refl
  by (Some s) = new-lines s.conn_streams conn stream c

  own : host ≡ h → (stream_in (conns_in (slice_get (changed ss host (new_line conn stream)) h)) c ≡ stream_in (conns_in (slice_get ss h)) c)
      ⊎ (h ≡ host) × (c ≡ conn) × (stream_in (conns_in (slice_get (changed ss host (new_line conn stream)) h)) c ≡ Some stream)
  own e =
      let here : slice_get (changed ss host (new_line conn stream)) h ≡ option_map (new_line conn stream) (slice_get ss h) =
      subst (λ k. slice_get (changed ss host (new_line conn stream)) k ≡ option_map (new_line conn stream) (slice_get ss k)) e (changed-same ss host (new_line conn stream)) in
      elim (by (slice_get ss h)) [
        | inl k ↦ inl (ap (λ o. stream_in (conns_in o) c) here ∙ k)
        | inr k ↦ inr (sym e, k.0, ap (λ o. stream_in (conns_in o) c) here ∙ k.1)
      ]

pub dialled-at : (client : Client) (moment : ℕ) (w : ClientState) (op host conn : ℕ) (stream : Option ℕ) (h c : ℕ) →
    Dials w (client_after client moment w (fact.Dialled op host conn stream)) host conn stream h c
dialled-at client moment w op host conn None h c =
    let f = fact.Dialled op host conn None in
    let u = pools_after w moment (pool_step w f) in
    other (conn-by (client_after client moment w f) h c ∙ ap (λ (l : Lines). stream_in l.0 c) (pools-kept w moment (pool_step w f) h) ∙ sym (conn-by w h c))
dialled-at client moment w op host conn (Some stream) h c =
    let f = fact.Dialled op host conn (Some stream) in
    let v = client_after client moment w f in
    let u = pools_after w moment (pool_step w f) in
    let old : stream_in (conns_in (slice_get u.servers h)) c ≡ conn_stream_at w h c = ap (λ (l : Lines). stream_in l.0 c) (pools-kept w moment (pool_step w f) h) ∙ sym (conn-by w h c) in
    elim (line-at u.servers host conn stream h c) [
      | inl k ↦ other (conn-by v h c ∙ k ∙ old)
      | inr k ↦ own k.0 k.1 (conn-by v h c ∙ k.2)
    ]

-- ---- The stream of a server's checks

abbrev check_in : Option ServerState → Option ℕ
check_in o = (lines_in o).1

-- a change that keeps it, or ends it
fewer-checks : (ss : List ServerState) (host y : ℕ) (f : ServerState → ServerState) → ((x : ServerState) (s : ℕ) → (f x).check_stream ≡ Some s → x.check_stream ≡ Some s) →
    (s : ℕ) → check_in (slice_get (changed ss host f) y) ≡ Some s → check_in (slice_get ss y) ≡ Some s
fewer-checks ss host y f keeps s h = elim (eqb_tells host y) [
  | inl x ↦
      let here : slice_get (changed ss host f) y ≡ option_map f (slice_get ss y) =
      subst (λ k. slice_get (changed ss host f) k ≡ option_map f (slice_get ss k)) x.1 (changed-same ss host f) in
      by (slice_get ss y) (sym (ap check_in here) ∙ h)
  | inr x ↦ sym (ap check_in (changed-other ss host y f x.1)) ∙ h
] where
  by : (o : Option ServerState) → check_in (option_map f o) ≡ Some s → check_in o ≡ Some s
  by None k = k
  by (Some x) k = keeps x s k

end-checks : (moment : ℕ) (h : CheckHow) (known : Bool) (x : ServerState) (s : ℕ) → (check_ends moment h known x).check_stream ≡ Some s → x.check_stream ≡ Some s
end-checks moment (how.Reply sample) known x s e = e
end-checks moment (how.Refused code) known x s e = absurd (cc)
end-checks moment how.Cut known x s e = absurd (cc)
end-checks moment how.Fault known x s e = absurd (cc)
end-checks moment how.Late known x s e = absurd (cc)
end-checks moment (how.Bad at) known x s e = absurd (cc)
end-checks moment how.NoDial known x s e = e

abbrev pub is_check : Fact → Bool
is_check (fact.CheckBegan host stream) = true
is_check f = false

one-check : (client : Client) (moment : ℕ) (w : ClientState) (f : Fact) (y s : ℕ) → is_check f ≡ false →
    (lines_at (client_after client moment w f) y).1 ≡ Some s → (lines_at w y).1 ≡ Some s
one-check client moment w (fact.CheckBegan host stream) y s q h = absurd (cc)
one-check client moment w (fact.Dropped host) y s q h = fewer-checks w.servers host y leaves (λ x k e. absurd (cc)) s h
one-check client moment w (fact.CheckEnded host how) y s q h =
    fewer-checks w.servers host y (check_ends moment how (is_known_at w host)) (end-checks moment how (is_known_at w host)) s h
one-check client moment w (fact.Dialled op host conn None) y s q h =
    sym (ap (λ (l : Lines). l.1) (pools-kept w moment (pool_step w (fact.Dialled op host conn None)) y)) ∙ h
one-check client moment w (fact.Dialled op host conn (Some stream)) y s q h =
    let u = pools_after w moment (pool_step w (fact.Dialled op host conn (Some stream))) in
    sym (changed-keeps check_in u.servers host y (new_line conn stream) (λ x. refl) ∙ ap (λ (l : Lines). l.1) (pools-kept w moment (pool_step w (fact.Dialled op host conn (Some stream))) y)) ∙ h
one-check client moment w f y s q h = sym (ap (λ (l : Lines). l.1) (quiet-kept client moment w f y refl)) ∙ h

pub checks-from : (client : Client) (moment : ℕ) (w : ClientState) (f : Fact) (y s : ℕ) → is_check f ≡ false →
    kept_at (client_after client moment w f) y ≡ Some s → kept_at w y ≡ Some s
checks-from client moment w f y s q h =
    kept-by w y ∙ one-check client moment w f y s q (sym (kept-by (client_after client moment w f) y) ∙ h)

pub begun-from : (client : Client) (moment : ℕ) (w : ClientState) (host stream y s : ℕ) →
    kept_at (client_after client moment w (fact.CheckBegan host stream)) y ≡ Some s → (kept_at w y ≡ Some s) ⊎ (host ≡ y) × (s ≡ stream)
begun-from client moment w host stream y s h =
    let u = stream_taken (kept_at w host) stream w in
    let v = client_after client moment w (fact.CheckBegan host stream) in
    let k : check_in (slice_get (changed u.servers host (check_begins moment stream)) y) ≡ Some s = sym (kept-by v y) ∙ h in
    let same : check_in (slice_get u.servers y) ≡ kept_at w y = ap (λ ss. check_in (slice_get ss y)) (taken-servers (kept_at w host) stream w) ∙ sym (kept-by w y) in
    elim (eqb_tells host y) [
      | inl x ↦
          let here : slice_get (changed u.servers host (check_begins moment stream)) y ≡ option_map (check_begins moment stream) (slice_get u.servers y) =
          subst (λ n. slice_get (changed u.servers host (check_begins moment stream)) n ≡ option_map (check_begins moment stream) (slice_get u.servers n)) x.1
          (changed-same u.servers host (check_begins moment stream)) in
          inr (x.1, by (slice_get u.servers y) (sym (ap check_in here) ∙ k))
      | inr x ↦ inl (sym same ∙ sym (ap check_in (changed-other u.servers host y (check_begins moment stream) x.1)) ∙ k)
    ] where
      by : (o : Option ServerState) → check_in (option_map (check_begins moment stream) o) ≡ Some s → s ≡ stream
      by None e = absurd (cc)
      by (Some x) e = let same : stream ≡ s = (cc) in sym same
