-- What a desk keeps stays so behind the entries of commands, which change nothing of its servers but what their pools hold.
use Rattle.std.proofs.Common.{◌≡◌, ◌≢◌, ◌≤◌, ◌<◌, ℕ, zero, suc, ◌+◌, ◌==◌, Bool, true, false, List, [], ◌∷◌, ◌++◌, map, length, Option, None, Some, refl, sym, ap, ◌∙◌, subst, arith, inl, inr}
use Rattle.std.specs.Prelude.{slice_get, slice_set, if◌then◌else◌}
use Rattle.std.specs.Option.{option_and_then, option_map}
use Rattle.std.proofs.lemmas.List.{length-append, length-set}
use Rattle.bson_doc.specs.declared.cluster_time.ClusterTime.{ClusterTime}
use Rattle.bson_doc.specs.declared.ids.Lsid.{Lsid}
use Rattle.entry_judge.specs.Groups.{place_by}
use Rattle.host_name.specs.Addresses.{Address}
use Rattle.pool_book.specs.Entries as pool
use Rattle.pool_book.specs.Entries.{PoolEntry}
use Rattle.pool_book.specs.Judge.{pool_judge}
use Rattle.pool_book.specs.Pool.{Pool, is_closed}
use Rattle.topo_rules.specs.declared.topology.Topology.{Topology}
use Rattle.write_retry.specs.declared.events.Unsent.{Unsent}
use Rattle.write_retry.specs.declared.events.Unsent.TheVariants as unsent
use Rattle.desk_trail.specs.declared.entry.Entry.{Entry}
use Rattle.desk_trail.specs.declared.entry.LookedHow.{LookedHow}
use Rattle.desk_trail.specs.declared.entry.LookedHow.TheVariants as looked
use Rattle.desk_trail.specs.declared.request.Purpose.{Purpose}
use Rattle.desk_trail.specs.declared.request.Purpose.TheVariants as purpose
use Rattle.desk_trail.specs.declared.request.Request.{Request}
use Rattle.desk_trail.specs.declared.room.Room.{Room}
use Rattle.desk_trail.specs.declared.step.Step.{Step}
use Rattle.desk_trail.specs.Attempts.{OfCommand, asked_by, asked_event, command_step, commands_after}
use Rattle.desk_trail.specs.Clients.{Client}
use Rattle.desk_trail.specs.Facts.{Fact, Lists}
use Rattle.desk_trail.specs.Facts as fact
use Rattle.desk_trail.specs.Legal.{Point, client_after}
use Rattle.desk_trail.specs.Looks.{looked_after}
use Rattle.desk_trail.specs.Pools.{OfHost, at_host, check_out_of, conn_streams_after, lost_with, not_lent_with, pool_step, pools_after, ticket_dialling, ticket_having, ticket_with, with_pool}
use Rattle.desk_trail.specs.Requests.{farewell_by}
use Rattle.desk_trail.specs.States.{CheckOut, ClientState, Dials, Has, Nothing, CommandState, ServerState, Waits, changed_at, with_server}
use Rattle.legal_trail.specs.Recorded.{Adds, Recorded}
use Rattle.wired_trail.specs.Faults.{tells_fault}
use Rattle.wired_trail.specs.Lines.{KeepsOthers, Lines, line_at}
use Rattle.wired_trail.specs.declared.lines.Line.{Line}
use Rattle.wired_trail.specs.declared.stream_use.StreamUse.{StreamUse}
use Rattle.wired_trail.specs.declared.stream_use.StreamUse.TheVariants as for_use
use Rattle.cmd_step.specs.Closed.{ClosesOnly}
use Rattle.cmd_step.specs.Sweeps.{IsOfConn}
use Rattle.desk_core.specs.Appends.{AppendsAside, AppendsOf}
use Rattle.desk_core.specs.CheckLines.{KeepsCheckLines}
use Rattle.desk_core.specs.Commands.{MovesOne}
use Rattle.desk_core.specs.Kept.{IsKept}
use Rattle.desk_core.specs.Servers.{HasStream, IsKeptServer, closings}
use Rattle.desk_core.proofs.AppendsLemmas.{AreGrown-longer, AreGrown-session, AreLonger-refl, AreLonger-requests, grown-adds}
use Rattle.desk_core.proofs.KeptLemmas.{length-with_entry}
use Rattle.desk_core.proofs.ServerLemmas.{at_place, elsewhere, slice_get-set}

-- ---- A server

-- what its checks read is as it was; of its pool the state and the generation are, and at most so many tickets more entered that
pub record SameBeside (n : ℕ) (s t : ServerState) : Type 0 where
  pub address : t.address ≡ s.address
  pub left : t.has_left ≡ s.has_left
  pub checks : t.checks ≡ s.checks
  pub stream : t.check_stream ≡ s.check_stream
  pub state : t.pool.state.state ≡ s.pool.state.state
  pub generation : t.pool.state.generation ≡ s.pool.state.generation
  pub entered : t.pool.state.entered ≤ s.pool.state.entered + n

pub SameBeside-refl : (n : ℕ) (s : ServerState) → SameBeside n s s
SameBeside-refl n s = record { address = refl; left = refl; checks = refl; stream = refl; state = refl; generation = refl; entered = omega arith }

pub SameBeside-trans : (m n : ℕ) (s t u : ServerState) → SameBeside m s t → SameBeside n t u → SameBeside (m + n) s u
SameBeside-trans m n s t u a b = record {
  address = b.address ∙ a.address;
  left = b.left ∙ a.left;
  checks = b.checks ∙ a.checks;
  stream = b.stream ∙ a.stream;
  state = b.state ∙ a.state;
  generation = b.generation ∙ a.generation;
  entered = let p = a.entered in let q = b.entered in omega arith;
}

-- ---- An entry of its pool

-- an entry of a pool by which a command gets a connection, gives one back or gets none, or one is shut
abbrev IsOwn : PoolEntry → Type 0
IsOwn pool.Ready = ⊥
IsOwn pool.Clear = ⊥
IsOwn pool.Shut = ⊥
IsOwn e = Unit {0}

-- the pool's state and generation are as they were, and at most a ticket more entered
record IsPoolBeside (p q : Pool) : Type 0 where
  state : q.state ≡ p.state
  generation : q.generation ≡ p.generation
  entered : q.entered ≤ p.entered + 1

pool-refl : (p : Pool) → IsPoolBeside p p
pool-refl p = record { state = refl; generation = refl; entered = omega arith }

pool-after : (p : Pool) (moment : ℕ) (e : PoolEntry) → IsOwn e → IsPoolBeside p (pool.after p moment e)
pool-after p moment pool.Ready own = absurd own
pool-after p moment pool.Clear own = absurd own
pool-after p moment pool.Shut own = absurd own
pool-after p moment (pool.Entered number) own = record { state = refl; generation = refl; entered = omega arith }
pool-after p moment (pool.Left number) own = record { state = refl; generation = refl; entered = omega arith }
pool-after p moment (pool.Lent number conn) own = record { state = refl; generation = refl; entered = omega arith }
pool-after p moment (pool.Dialled number conn) own = record { state = refl; generation = refl; entered = omega arith }
pool-after p moment (pool.Settled number conn true) own = record { state = refl; generation = refl; entered = omega arith }
pool-after p moment (pool.Settled number conn false) own = record { state = refl; generation = refl; entered = omega arith }
pool-after p moment (pool.NotLent number (pool.Lost conn)) own = record { state = refl; generation = refl; entered = omega arith }
pool-after p moment (pool.NotLent number pool.Closed) own = record { state = refl; generation = refl; entered = omega arith }
pool-after p moment (pool.NotLent number (pool.Cleared g)) own = record { state = refl; generation = refl; entered = omega arith }
pool-after p moment (pool.NotLent number pool.Late) own = record { state = refl; generation = refl; entered = omega arith }
pool-after p moment (pool.CheckedIn number conn errored) own = record { state = refl; generation = refl; entered = omega arith }
pool-after p moment (pool.ConnShut conn reason) own = record { state = refl; generation = refl; entered = omega arith }

place-after : (p : Pool) (owed : List PoolEntry) (moment : ℕ) (e : PoolEntry) → IsOwn e →
    IsPoolBeside p (place_by pool_judge p owed (record { at = moment; what = e })).state
place-after p [] moment e own = pool-after p moment e own
place-after p (d ∷ ds) moment e own = pool-refl p

SameBeside-pool : (moment : ℕ) (e : PoolEntry) (s : ServerState) → IsOwn e → SameBeside 1 s (with_pool moment e s)
SameBeside-pool moment e s own =
    let p = place-after s.pool.state s.pool.owed moment e own in
    record { address = refl; left = refl; checks = refl; stream = refl; state = p.state; generation = p.generation; entered = p.entered }

-- ---- A client

-- so is each server; the topology and the count of its events are as they were, so many requests more were queued, and the client
-- ends no more than it did
record SameClient (n asked : ℕ) (w v : ClientState) : Type 0 where
  topology : v.topology ≡ w.topology
  offered : v.events ≡ w.events
  going : v.is_ending ≡ w.is_ending
  requests : v.requests ≡ w.requests + asked
  count : length v.servers ≡ length w.servers
  servers : (x : ℕ) (t : ServerState) → slice_get v.servers x ≡ Some t → (s : ServerState) × (slice_get w.servers x ≡ Some s) × SameBeside n s t

client-refl : (n : ℕ) (w : ClientState) → SameClient n 0 w w
client-refl n w = record {
  topology = refl;
  offered = refl;
  going = refl;
  requests = omega arith;
  count = refl;
  servers = λ x t e. (t, e, SameBeside-refl n t);
}

client-trans : (m n a b : ℕ) (w v u : ClientState) → SameClient m a w v → SameClient n b v u → SameClient (m + n) (a + b) w u
client-trans m n a b w v u p q = record {
  topology = q.topology ∙ p.topology;
  offered = q.offered ∙ p.offered;
  going = q.going ∙ p.going;
  requests = let x = p.requests in let y = q.requests in omega arith;
  count = q.count ∙ p.count;
  servers = λ x t e.
      let mid = q.servers x t e in
      let s = p.servers x mid.0 mid.1 in
      (s.0, s.1, SameBeside-trans m n s.0 mid.0 t s.2 mid.2);
}

-- by what the clients show, where only these are read
client-same : (n a : ℕ) (w v u : ClientState) → SameClient n a w v → u.topology ≡ v.topology → u.events ≡ v.events → u.is_ending ≡ v.is_ending → u.requests ≡ v.requests →
    u.servers ≡ v.servers → SameClient n a w u
client-same n a w v u h topology events ending requests servers = record {
  topology = topology ∙ h.topology;
  offered = events ∙ h.offered;
  going = ending ∙ h.going;
  requests = requests ∙ h.requests;
  count = ap (λ (ss : List ServerState). length ss) servers ∙ h.count;
  servers = λ x t e. h.servers x t (sym (ap (λ (ss : List ServerState). slice_get ss x) servers) ∙ e);
}

-- where one server changes so
client-changed : (n k : ℕ) (w : ClientState) (f : ServerState → ServerState) → ((s : ServerState) → SameBeside n s (f s)) → SameClient n 0 w (with_server w k f)
client-changed n k w f h = by (slice_get w.servers k) refl
  where
    by : (o : Option ServerState) → slice_get w.servers k ≡ o → SameClient n 0 w (record w { servers = changed_at w.servers k o f })
    by None e = client-refl n w
    by (Some s) e = record {
      topology = refl;
      offered = refl;
      going = refl;
      requests = omega arith;
      count = length-set w.servers k (f s);
      servers = λ x t there. elim (slice_get-set w.servers k (f s) x t there) [
        | at_place i is ↦ (s, ap (λ y. slice_get w.servers y) i ∙ e, subst (λ u. SameBeside n s u) (sym is) (h s))
        | elsewhere i is ↦ (t, is, SameBeside-refl n t)
      ];
    }

-- ---- Entries of pools

-- the entry of a pool that an entry is, where it is one, is such an entry
abbrev IsOwnAt : Option OfHost → Type 0
IsOwnAt None = Unit {0}
IsOwnAt (Some e) = IsOwn e.1

own-at : (host : ℕ) (f : ℕ → PoolEntry) (o : Option ℕ) → ((t : ℕ) → IsOwn (f t)) → IsOwnAt (at_host host (option_map f o))
own-at host f None h = tt
own-at host f (Some t) h = h t

own-where : (host : ℕ) (b : Bool) (o : Option PoolEntry) → IsOwnAt (at_host host o) → IsOwnAt (at_host host (if b then o else None))
own-where host true o h = h
own-where host false o h = tt

own-lost : (host : ℕ) (h : CheckOut) → IsOwnAt (at_host host (lost_with host h))
own-lost host Nothing = tt
own-lost host (Waits x ticket) = tt
own-lost host (Dials x ticket conn) = own-where host (x == host) (Some (pool.NotLent ticket (pool.Lost conn))) tt
own-lost host (Has x ticket conn) = tt

own-not_lent : (host : ℕ) (why : Unsent) (h : CheckOut) → IsOwnAt (at_host host (not_lent_with host why h))
own-not_lent host unsent.PoolLate h = own-at host (λ t. pool.NotLent t pool.Late) (ticket_with host h) (λ t. tt)
own-not_lent host (unsent.PoolCleared g) h = own-at host (λ t. pool.NotLent t (pool.Cleared g)) (ticket_with host h) (λ t. tt)
own-not_lent host (unsent.PoolClosed x) h =
    own-where host (x == host) (option_map (λ t. pool.NotLent t pool.Closed) (ticket_with host h))
    (own-at host (λ t. pool.NotLent t pool.Closed) (ticket_with host h) (λ t. tt))
own-not_lent host (unsent.Dial bad) h = own-lost host h
own-not_lent host (unsent.Greeting code) h = own-lost host h
own-not_lent host (unsent.TooLarge size most) h = tt

own-refused : (host : ℕ) (why : Unsent) (o : Option CheckOut) → IsOwnAt (at_host host (option_and_then (not_lent_with host why) o))
own-refused host why None = tt
own-refused host why (Some h) = own-not_lent host why h

client-pools : (moment : ℕ) (w : ClientState) (o : Option OfHost) → IsOwnAt o → SameClient 1 0 w (pools_after w moment o)
client-pools moment w None own = client-refl 1 w
client-pools moment w (Some e) own = client-changed 1 e.0 w (with_pool moment e.1) (λ s. SameBeside-pool moment e.1 s own)

-- a new connection has its stream
client-dialled : (w : ClientState) (op host conn : ℕ) (o : Option ℕ) → SameClient 0 0 w (conn_streams_after w (fact.Dialled op host conn o))
client-dialled w op host conn None = client-refl 0 w
client-dialled w op host conn (Some stream) =
    let v : ClientState = record w { streams = stream ∷ w.streams } in
    let u : ClientState = conn_streams_after w (fact.Dialled op host conn (Some stream)) in
    let h : SameClient 0 0 v u = client-changed 0 host v (λ s. record s { conn_streams = record { conn = conn; stream = stream } ∷ s.conn_streams })
    (λ s. record { address = refl; left = refl; checks = refl; stream = refl; state = refl; generation = refl; entered = omega arith }) in
    record { topology = h.topology; offered = h.offered; going = h.going; requests = h.requests; count = h.count; servers = h.servers }

-- ---- Entries of commands

-- how a look may end: it came to a server, or to none at all
abbrev pub IsFound : LookedHow → Type 0
IsFound (looked.Chosen host) = Unit {0}
IsFound looked.NoneFits = ⊥
IsFound looked.Failed = Unit {0}
IsFound (looked.Incompatible host) = Unit {0}

-- a request is a command's, or the greeting of a connection
abbrev pub IsOfCommand : Purpose → Type 0
IsOfCommand (purpose.Check host) = ⊥
IsOfCommand (purpose.Greeting host conn) = Unit {0}
IsOfCommand (purpose.Command op) = Unit {0}
IsOfCommand purpose.Farewell = ⊥

-- the kinds of entries of commands that change nothing of the servers but what their pools hold
abbrev pub IsBeside : Fact → Type 0
IsBeside (fact.Looked op a b kept picked) = IsFound picked
IsBeside (fact.Entered op host ticket) = Unit {0}
IsBeside (fact.Lent op host conn) = Unit {0}
IsBeside (fact.Dialled op host conn stream) = Unit {0}
IsBeside (fact.Settled op host conn stale) = Unit {0}
IsBeside (fact.NotLent op host why) = Unit {0}
IsBeside (fact.CheckedIn op host conn errored) = Unit {0}
IsBeside (fact.ConnShut host conn reason) = Unit {0}
IsBeside (fact.Leased op place lsid fresh) = Unit {0}
IsBeside (fact.Drew op number) = Unit {0}
IsBeside (fact.Returned op dirty kept) = Unit {0}
IsBeside (fact.Asked place request) = IsOfCommand request.purpose
IsBeside (fact.Ended op end) = Unit {0}
IsBeside (fact.Time stamp) = Unit {0}
IsBeside (fact.Finished op outcome) = Unit {0}
IsBeside f = ⊥

pub IsFound-apart : (how : LookedHow) → how ≢ looked.NoneFits → IsFound how
IsFound-apart (looked.Chosen host) h = tt
IsFound-apart looked.NoneFits h = absurd (h refl)
IsFound-apart looked.Failed h = tt
IsFound-apart (looked.Incompatible host) h = tt

-- how many requests an entry queues
abbrev pub asks : Fact → ℕ
asks (fact.Asked place request) = 1
asks f = 0

-- an event of a command changes nothing else
client-told : (n a : ℕ) (w v : ClientState) (o : Option OfCommand) → SameClient n a w v → SameClient n a w (commands_after o v)
client-told n a w v None h = h
client-told n a w v (Some e) h = client-same n a w v (commands_after (Some e) v) h refl refl refl refl refl

client-asked : (n a moment : ℕ) (w v : ClientState) (p : Purpose) (stream : ℕ) → IsOfCommand p → SameClient n a w v → SameClient n a w (asked_by moment p (farewell_by p stream v))
client-asked n a moment w v (purpose.Check host) stream own h = absurd own
client-asked n a moment w v (purpose.Greeting host conn) stream own h = h
client-asked n a moment w v (purpose.Command op) stream own h = client-same n a w v (asked_by moment (purpose.Command op) v) h refl refl refl refl refl
client-asked n a moment w v purpose.Farewell stream own h = absurd own

client-requests : (w : ClientState) → SameClient 1 1 w (record w { requests = w.requests + 1 })
client-requests w = record {
  topology = refl;
  offered = refl;
  going = refl;
  requests = refl;
  count = refl;
  servers = λ x t e. (t, e, SameBeside-refl 1 t);
}

-- commands and sessions alone changed
client-aside : (w v : ClientState) → v.topology ≡ w.topology → v.events ≡ w.events → v.is_ending ≡ w.is_ending → v.requests ≡ w.requests → v.servers ≡ w.servers → SameClient 1 0 w v
client-aside w v topology events ending requests servers = client-same 1 0 w w v (client-refl 1 w) topology events ending requests servers

client-by : (client : Client) (moment : ℕ) (w : ClientState) (f : Fact) → IsBeside f → SameClient 1 (asks f) w (client_after client moment w f)
client-by client moment w (fact.Named host address) own = absurd own
client-by client moment w (fact.Dropped host) own = absurd own
client-by client moment w (fact.Offered place event taken) own = absurd own
client-by client moment w (fact.PoolReady host) own = absurd own
client-by client moment w (fact.PoolClear host) own = absurd own
client-by client moment w (fact.PoolShut host) own = absurd own
client-by client moment w (fact.CheckBegan host stream) own = absurd own
client-by client moment w (fact.CheckDry host) own = absurd own
client-by client moment w (fact.CheckEnded host how) own = absurd own
client-by client moment w (fact.Looked op a b kept looked.NoneFits) own = absurd own
client-by client moment w (fact.Looked op a b kept (looked.Chosen host)) own = client-aside w (client_after client moment w (fact.Looked op a b kept (looked.Chosen host))) refl refl refl refl refl
client-by client moment w (fact.Looked op a b kept looked.Failed) own = client-aside w (client_after client moment w (fact.Looked op a b kept looked.Failed)) refl refl refl refl refl
client-by client moment w (fact.Looked op a b kept (looked.Incompatible host)) own =
    let f : Fact = fact.Looked op a b kept (looked.Incompatible host) in
    let v : ClientState = looked_after moment op (looked.Incompatible host) w in
    client-told 1 0 w v (command_step client w f) (client-aside w v refl refl refl refl refl)
client-by client moment w (fact.Entered op host ticket) own =
    client-same 1 0 w (pools_after w moment (Some (host, pool.Entered ticket))) (client_after client moment w (fact.Entered op host ticket)) (client-pools moment w (Some (host, pool.Entered ticket)) tt) refl refl refl refl refl
client-by client moment w (fact.Lent op host conn) own =
    let o : Option OfHost = pool_step w (fact.Lent op host conn) in
    client-same 1 0 w (pools_after w moment o) (client_after client moment w (fact.Lent op host conn))
    (client-pools moment w o (own-at host (λ t. pool.Lent t conn) (option_and_then (ticket_with host) (check_out_of w op)) (λ t. tt))) refl refl refl refl refl
client-by client moment w (fact.Dialled op host conn stream) own =
    let o : Option OfHost = pool_step w (fact.Dialled op host conn stream) in
    let v : ClientState = pools_after w moment o in
    let u : ClientState = conn_streams_after v (fact.Dialled op host conn stream) in
    client-same 1 0 w u (client_after client moment w (fact.Dialled op host conn stream))
    (client-trans 1 0 0 0 w v u
    (client-pools moment w o (own-at host (λ t. pool.Dialled t conn) (option_and_then (ticket_with host) (check_out_of w op)) (λ t. tt)))
    (client-dialled v op host conn stream))
    refl refl refl refl refl
client-by client moment w (fact.Settled op host conn stale) own =
    let o : Option OfHost = pool_step w (fact.Settled op host conn stale) in
    client-pools moment w o (own-at host (λ t. pool.Settled t conn stale) (option_and_then (ticket_dialling host conn) (check_out_of w op)) (λ t. tt))
client-by client moment w (fact.NotLent op host why) own =
    let o : Option OfHost = pool_step w (fact.NotLent op host why) in
    client-same 1 0 w (pools_after w moment o) (client_after client moment w (fact.NotLent op host why))
    (client-pools moment w o (own-refused host why (check_out_of w op))) refl refl refl refl refl
client-by client moment w (fact.CheckedIn op host conn errored) own =
    let o : Option OfHost = pool_step w (fact.CheckedIn op host conn errored) in
    client-same 1 0 w (pools_after w moment o) (client_after client moment w (fact.CheckedIn op host conn errored))
    (client-pools moment w o (own-at host (λ t. pool.CheckedIn t conn errored) (option_and_then (ticket_having host conn) (check_out_of w op)) (λ t. tt))) refl refl refl refl refl
client-by client moment w (fact.ConnShut host conn reason) own = client-pools moment w (Some (host, pool.ConnShut conn reason)) tt
client-by client moment w (fact.Leased op place lsid fresh) own = client-aside w (client_after client moment w (fact.Leased op place lsid fresh)) refl refl refl refl refl
client-by client moment w (fact.Drew op number) own = client-aside w (client_after client moment w (fact.Drew op number)) refl refl refl refl refl
client-by client moment w (fact.Returned op dirty kept) own = client-aside w (client_after client moment w (fact.Returned op dirty kept)) refl refl refl refl refl
client-by client moment w (fact.Asked place request) own =
    let v : ClientState = record w { requests = w.requests + 1 } in
    client-told 1 1 w (asked_by moment request.purpose (farewell_by request.purpose request.stream v)) (asked_event request.purpose)
    (client-asked 1 1 moment w v request.purpose request.stream own (client-requests w))
client-by client moment w (fact.Ended op end) own = client-aside w (client_after client moment w (fact.Ended op end)) refl refl refl refl refl
client-by client moment w (fact.Time stamp) own = client-refl 1 w
client-by client moment w (fact.Finished op outcome) own = client-aside w (client_after client moment w (fact.Finished op outcome)) refl refl refl refl refl

-- ---- Trails

-- so many entries of commands came: the servers are as above, and the counts of events and of requests are those of the lists still
pub record GoesBeside (n : ℕ) (old new : Recorded) : Type 0 where
  pub client : new.client ≡ old.client
  pub names : new.lists.names ≡ old.lists.names
  pub events : new.lists.events ≡ old.lists.events
  pub steps : length new.steps ≡ length old.steps + n
  pub topology : new.point.state.topology ≡ old.point.state.topology
  pub offered : new.point.state.events ≡ old.point.state.events
  pub going : new.point.state.is_ending ≡ old.point.state.is_ending
  pub requests : old.point.state.requests ≡ length old.lists.requests → new.point.state.requests ≡ length new.lists.requests
  pub count : length new.point.state.servers ≡ length old.point.state.servers
  pub servers : (x : ℕ) (t : ServerState) → slice_get new.point.state.servers x ≡ Some t →
      (s : ServerState) × (slice_get old.point.state.servers x ≡ Some s) × SameBeside n s t

-- the lists behind such an entry: one request more where it queues that
pub record AreListed (f : Fact) (old new : Lists) : Type 0 where
  pub names : new.names ≡ old.names
  pub events : new.events ≡ old.events
  pub requests : length new.requests ≡ length old.requests + asks f

pub GoesBeside-adds : (used : Room) (lists : Lists) (moment : ℕ) (e : Entry) (f : Fact) (old new : Recorded) → IsBeside f → AreListed f old.lists lists →
    Adds used lists moment e f old new → GoesBeside 1 old new
GoesBeside-adds used lists moment e f old new own listed a =
    let state : new.point.state ≡ client_after old.client moment old.point.state f = ap (λ (p : Point). p.state) a.point_now in
    let v : ClientState = client_after old.client moment old.point.state f in
    let by = client-by old.client moment old.point.state f own in
    let h = client-same 1 (asks f) old.point.state v new.point.state by (ap (λ (w : ClientState). w.topology) state) (ap (λ (w : ClientState). w.events) state)
    (ap (λ (w : ClientState). w.is_ending) state) (ap (λ (w : ClientState). w.requests) state) (ap (λ (w : ClientState). w.servers) state) in
    record {
      client = a.same_client;
      names = ap (λ (l : Lists). l.names) a.lists_now ∙ listed.names;
      events = ap (λ (l : Lists). l.events) a.lists_now ∙ listed.events;
      steps = ap (λ (xs : List Step). length xs) a.steps_now ∙ length-with_entry old.steps moment e;
      topology = h.topology;
      offered = h.offered;
      going = h.going;
      requests = λ c. h.requests ∙ ap (λ n. n + asks f) c ∙ sym listed.requests ∙ ap (λ (l : Lists). length l.requests) (sym a.lists_now);
      count = h.count;
      servers = h.servers;
    }

-- by an entry that names no place of a list
pub GoesBeside-entry : (used : Room) (moment : ℕ) (e : Entry) (f : Fact) (old new : Recorded) → IsBeside f → asks f ≡ 0 → Adds used old.lists moment e f old new →
    GoesBeside 1 old new
GoesBeside-entry used moment e f old new own none a =
    GoesBeside-adds used old.lists moment e f old new own (record { names = refl; events = refl; requests = omega (arith, none) }) a

-- by a request that is queued
pub GoesBeside-asked : (used : Room) (moment place : ℕ) (e : Entry) (r : Request) (old new : Recorded) → IsOfCommand r.purpose →
    Adds used (record old.lists { requests = old.lists.requests ++ r ∷ [] }) moment e (fact.Asked place r) old new → GoesBeside 1 old new
GoesBeside-asked used moment place e r old new own a =
    GoesBeside-adds used (record old.lists { requests = old.lists.requests ++ r ∷ [] }) moment e (fact.Asked place r) old new own
    (record { names = refl; events = refl; requests = length-append old.lists.requests (r ∷ []) }) a

-- by a lease of a new session
pub GoesBeside-leased : (used : Room) (moment op place : ℕ) (lsid : Lsid) (fresh : Bool) (ids : List Lsid) (e : Entry) (old new : Recorded) →
    Adds used (record old.lists { sessions = ids }) moment e (fact.Leased op place lsid fresh) old new → GoesBeside 1 old new
GoesBeside-leased used moment op place lsid fresh ids e old new a =
    GoesBeside-adds used (record old.lists { sessions = ids }) moment e (fact.Leased op place lsid fresh) old new tt
    (record { names = refl; events = refl; requests = omega arith }) a

pub GoesBeside-trans : (m n : ℕ) (old between new : Recorded) → GoesBeside m old between → GoesBeside n between new → GoesBeside (m + n) old new
GoesBeside-trans m n old between new a b = record {
  client = b.client ∙ a.client;
  names = b.names ∙ a.names;
  events = b.events ∙ a.events;
  steps = let x = a.steps in let y = b.steps in omega arith;
  topology = b.topology ∙ a.topology;
  offered = b.offered ∙ a.offered;
  going = b.going ∙ a.going;
  requests = λ c. b.requests (a.requests c);
  count = b.count ∙ a.count;
  servers = λ x t e.
      let mid = b.servers x t e in
      let s = a.servers x mid.0 mid.1 in
      (s.0, s.1, SameBeside-trans m n s.0 mid.0 t s.2 mid.2);
}

-- by none, where all but the room stays
pub GoesBeside-none : (old new : Recorded) (room : Room) → new ≡ record old { room = room } → GoesBeside 0 old new
GoesBeside-none old new room e =
    subst (λ (t : Recorded). GoesBeside 0 old t) (sym e) (record {
      client = refl;
      names = refl;
      events = refl;
      steps = omega arith;
      topology = refl;
      offered = refl;
      going = refl;
      requests = λ c. c;
      count = refl;
      servers = λ x t there. (t, there, SameBeside-refl 0 t);
    })

-- ---- What is kept

HasStream-keeps : (before lines : Lines) (x : ℕ) (began o : Option ℕ) → KeepsCheckLines before lines → HasStream before x began o → HasStream lines x began o
HasStream-keeps before lines x began None keeps h = h
HasStream-keeps before lines x began (Some stream) keeps h = (h.0, keeps stream h.0 x h.1 h.2, h.2, h.3)

IsKeptServer-beside : (before lines : Lines) (m n x : ℕ) (s t : ServerState) → SameBeside n s t → KeepsCheckLines before lines → t.pool.owed ≡ [] →
    IsKeptServer before m x s → IsKeptServer lines (m + n) x t
IsKeptServer-beside before lines m n x s t same keeps paid k = record {
  paid = paid;
  is_open = λ stays. ap is_closed same.state ∙ k.is_open (sym same.left ∙ stays);
  generation = let g = k.generation in let e = same.generation in omega arith;
  entered = let g = k.entered in let e = same.entered in omega arith;
  checked =
      subst (λ o. HasStream lines x t.checks.began o) (sym same.stream)
      (subst (λ b. HasStream lines x b s.check_stream) (sym (ap (λ c. c.began) same.checks)) (HasStream-keeps before lines x s.checks.began s.check_stream keeps k.checked));
  paced = subst (λ n. 0 < n) (sym (ap (λ c. c.beat) same.checks)) k.paced;
}

-- lists whose items read the same, place by place
map-places : {A B : Type 0} (f : A → B) (xs ys : List A) → length ys ≡ length xs →
    ((i : ℕ) (y : A) → slice_get ys i ≡ Some y → (x : A) × (slice_get xs i ≡ Some x) × (f y ≡ f x)) → map f ys ≡ map f xs
map-places f [] [] count h = refl
map-places f [] (y ∷ ys) count h = absurd (omega arith)
map-places f (x ∷ xs) [] count h = absurd (omega arith)
map-places f (x ∷ xs) (y ∷ ys) count h =
    let first = h 0 y refl in
    let is : first.0 ≡ x = let e = first.1 in (cc) in
    let rest = map-places f xs ys (omega arith) (λ i z e. h (suc i) z e) in
    (λ i. (first.2 ∙ ap f is) i ∷ rest i)

pub IsKept-beside : (n : ℕ) (old new : Recorded) (before lines : Lines) (topology : Topology) (ss ts : List ServerState) (time now : Option ClusterTime) (count counted last : ℕ)
    (stopped : Bool) → IsKept old before topology ss time count last stopped → stopped ≡ false → GoesBeside n old new → new.point.state.servers ≡ ts →
    new.point.time ≡ option_map (λ (t : ClusterTime). t.stamp) now → new.point.moment ≤ last → counted ≡ closings ts → counted ≤ new.room.steps →
    ((x : ℕ) (t : ServerState) → slice_get ts x ≡ Some t → t.pool.owed ≡ []) → KeepsCheckLines before lines →
    IsKept new lines topology ts now counted last stopped
IsKept-beside n old new before lines topology ss ts time now count counted last stopped k runs goes servers told at are room paid keeps =
    let h = k.leads runs in
    let w : ClientState = old.point.state in
    let was : w.servers ≡ ss = ap (λ (u : ClientState). u.servers) h.state in
    let each : (x : ℕ) (t : ServerState) → slice_get ts x ≡ Some t → (s : ServerState) × (slice_get ss x ≡ Some s) × SameBeside n s t = λ x t e.
    let s = goes.servers x t (ap (λ (zs : List ServerState). slice_get zs x) servers ∙ e) in
    (s.0, ap (λ (zs : List ServerState). slice_get zs x) (sym was) ∙ s.1, s.2) in
    let address : ServerState → Address = λ s. s.address in
    let many : length ts ≡ length ss = ap (λ (zs : List ServerState). length zs) (sym servers) ∙ goes.count ∙ ap (λ (zs : List ServerState). length zs) was in
    record {
      leads = λ r. record {
        state = λ i. record new.point.state {
          topology = (goes.topology ∙ ap (λ (u : ClientState). u.topology) h.state) i;
          events = (goes.offered ∙ ap (λ (u : ClientState). u.events) h.state ∙ sym (ap (λ xs. length xs) goes.events)) i;
          servers = servers i;
          requests = goes.requests (ap (λ (u : ClientState). u.requests) h.state) i;
          is_ending = (goes.going ∙ ap (λ (u : ClientState). u.is_ending) h.state) i;
        };
        greatest = told;
        moment = at;
        names = goes.names ∙ h.names ∙ sym (map-places address ss ts many (λ x t e. let s = each x t e in (s.0, s.1, s.2.address)));
        numbers = rw many h.numbers;
        room = subst (λ m. m ≤ new.room.steps) are room;
        kept = λ x t e.
            let s = each x t e in
            subst (λ m. IsKeptServer lines m x t) (sym goes.steps)
            (IsKeptServer-beside before lines (length old.steps) n x s.0 t s.2 keeps (paid x t e) (h.kept x s.0 s.1));
      };
      counted = are;
      in_range = k.in_range;
    }

-- ---- Lines of checks

pub KeepsCheckLines-refl : (lines : Lines) → KeepsCheckLines lines lines
KeepsCheckLines-refl lines = λ stream line x there is. there

pub KeepsCheckLines-same : (old new : Lines) → new ≡ old → KeepsCheckLines old new
KeepsCheckLines-same old new e = subst (λ (l : Lines). KeepsCheckLines old l) (sym e) (KeepsCheckLines-refl old)

pub KeepsCheckLines-trans : (old between new : Lines) → KeepsCheckLines old between → KeepsCheckLines between new → KeepsCheckLines old new
KeepsCheckLines-trans old between new a b = λ stream line x there is. b stream line x (a stream line x there is) is

-- where only the line of a stream that no check uses changes
pub KeepsCheckLines-others : (stream : ℕ) (old new : Lines) → ((line : Line) (x : ℕ) → line_at old stream ≡ Some line → line.is_for ≢ for_use.Check x) → KeepsOthers stream old new →
    KeepsCheckLines old new
KeepsCheckLines-others stream old new unused others = λ other line x there is.
    others other (λ (e : other ≡ stream). unused line x (sym (ap (line_at old) e) ∙ there) is) ∙ there

-- which was in use for a connection
pub KeepsCheckLines-conn : (stream host conn : ℕ) (old new : Lines) (line : Line) → line_at old stream ≡ Some line → line.is_for ≡ for_use.Conn host conn →
    KeepsOthers stream old new → KeepsCheckLines old new
KeepsCheckLines-conn stream host conn old new line there is_for others =
    KeepsCheckLines-others stream old new (λ other x here is. let same : other ≡ line = let e = sym here ∙ there in (cc) in
    let uses : for_use.Check x ≡ for_use.Conn host conn = sym is ∙ ap (λ (l : Line). l.is_for) same ∙ is_for in absurd (cc)) others

-- which was not in use
pub KeepsCheckLines-free : (stream : ℕ) (old new : Lines) → line_at old stream ≡ None → KeepsOthers stream old new → KeepsCheckLines old new
KeepsCheckLines-free stream old new free others =
    KeepsCheckLines-others stream old new (λ line x there is. let e : Some line ≡ None = sym there ∙ free in absurd (cc)) others

-- where only streams of other uses are closed
pub KeepsCheckLines-closes : (Of : StreamUse → Type 0) (old new : Lines) → ((x : ℕ) → Of (for_use.Check x) → ⊥) → ClosesOnly Of old new → KeepsCheckLines old new
KeepsCheckLines-closes Of old new apart closes = λ stream line x there is. elim (closes stream) [
  | inl e ↦ e ∙ there
  | inr c ↦
      let same : c.line ≡ line = let e = sym c.there ∙ there in (cc) in
      absurd (apart x (subst Of (ap (λ (l : Line). l.is_for) same ∙ is) c.was_for))
]

-- those of a connection, or of connections of a host's pool
pub KeepsCheckLines-closes_conn : (host conn : ℕ) (old new : Lines) → ClosesOnly (λ u. u ≡ for_use.Conn host conn) old new → KeepsCheckLines old new
KeepsCheckLines-closes_conn host conn old new closes =
    KeepsCheckLines-closes (λ u. u ≡ for_use.Conn host conn) old new (λ x e. absurd (cc)) closes

pub KeepsCheckLines-closes_host : (host : ℕ) (old new : Lines) → ClosesOnly (IsOfConn host) old new → KeepsCheckLines old new
KeepsCheckLines-closes_host host old new closes =
    KeepsCheckLines-closes (IsOfConn host) old new (λ x u. let e : for_use.Check x ≡ for_use.Conn host u.0 = u.1 in absurd (cc)) closes

-- ---- A command that moves

set-twice : {A : Type 0} (xs : List A) (k : ℕ) (x y : A) → slice_set (slice_set xs k x) k y ≡ slice_set xs k y
set-twice [] k x y = refl
set-twice (z ∷ zs) zero x y = refl
set-twice (z ∷ zs) (suc k) x y = ap (λ ys. z ∷ ys) (set-twice zs k x y)

pub MovesOne-trans : (op : ℕ) (c d : CommandState) (old mid new : Recorded) → MovesOne op c old mid → MovesOne op d mid new → MovesOne op d old new
MovesOne-trans op c d old mid new a b = record {
  commands = b.commands ∙ ap (λ (cs : List CommandState). slice_set cs op d) a.commands ∙ set-twice old.point.state.commands op c d;
  sessions = b.sessions ∙ a.sessions;
  ids = b.ids ∙ a.ids;
}

-- and what is written behind it leaves commands as they are
pub MovesOne-aside : {R : Type 0} (op moment : ℕ) (c : CommandState) (old mid new : Recorded) → MovesOne op c old mid → AppendsAside R moment mid new → MovesOne op c old new
MovesOne-aside {R} op moment c old mid new a b = record {
  commands = b.aside.commands ∙ a.commands;
  sessions = b.aside.sessions ∙ a.sessions;
  ids = b.ids ∙ a.ids;
}

-- or what is written ahead of it
pub MovesOne-behind : {R : Type 0} (op moment : ℕ) (c : CommandState) (old mid new : Recorded) → AppendsAside R moment old mid → MovesOne op c mid new → MovesOne op c old new
MovesOne-behind {R} op moment c old mid new a b = record {
  commands = b.commands ∙ ap (λ (cs : List CommandState). slice_set cs op c) a.aside.commands;
  sessions = b.sessions ∙ a.aside.sessions;
  ids = b.ids ∙ a.ids;
}

-- ---- Entries of commands, as what is appended

pub grown-entry : {R : Type 0} {P : Fact → Type 0} (used : Room) (moment : ℕ) (e : Entry) (f : Fact) (old new : Recorded) → Adds used old.lists moment e f old new → (tells_fault e ≡ true → R) →
    P f → AppendsOf R P moment old new
grown-entry {R} {P} used moment e f old new a quiet is = grown-adds used old.lists moment e f old new (AreGrown-longer old.lists old.lists (AreLonger-refl old.lists)) a quiet is

pub grown-asked : {R : Type 0} {P : Fact → Type 0} (used : Room) (moment place : ℕ) (e : Entry) (r : Request) (old new : Recorded) →
    Adds used (record old.lists { requests = old.lists.requests ++ r ∷ [] }) moment e (fact.Asked place r) old new → (tells_fault e ≡ true → R) → P (fact.Asked place r) →
    AppendsOf R P moment old new
grown-asked {R} {P} used moment place e r old new a quiet is =
    let lists : Lists = record old.lists { requests = old.lists.requests ++ r ∷ [] } in
    grown-adds used lists moment e (fact.Asked place r) old new (AreGrown-longer old.lists lists (AreLonger-requests old.lists (r ∷ []))) a quiet is

pub grown-leased : {R : Type 0} {P : Fact → Type 0} (used : Room) (moment op place : ℕ) (lsid : Lsid) (fresh : Bool) (more : List Lsid) (e : Entry) (old new : Recorded) →
    Adds used (record old.lists { sessions = old.lists.sessions ++ more }) moment e (fact.Leased op place lsid fresh) old new → (tells_fault e ≡ true → R) →
    P (fact.Leased op place lsid fresh) → AppendsOf R P moment old new
grown-leased {R} {P} used moment op place lsid fresh more e old new a quiet is =
    grown-adds used (record old.lists { sessions = old.lists.sessions ++ more }) moment e (fact.Leased op place lsid fresh) old new (AreGrown-session old.lists more) a quiet is
