-- A desk behind an entry that changes one server: where its trail leads, and what it writes next.
use Rattle.std.proofs.Common.{◌≡◌, ◌≤◌, ℕ, ◌+◌, Bool, true, false, List, [], ◌∷◌, ◌++◌, length, Option, None, Some, refl, sym, ap, ◌∙◌, subst, arith, length-set}
use Rattle.std.specs.Prelude.{slice_get, slice_set, if◌then◌else◌}
use Rattle.std.specs.Option.{option_map_or}
use Rattle.bson_doc.specs.declared.cluster_time.ClusterTime.{ClusterTime}
use Rattle.topo_rules.specs.declared.topology.Topology.{Topology}
use Rattle.pool_book.specs.Entries as pool
use Rattle.pool_book.specs.Entries.{PoolEntry}
use Rattle.pool_book.specs.Judge.{pool_judge}
use Rattle.entry_judge.specs.Groups.{place_by}
use Rattle.pool_book.specs.declared.state.PoolState.TheVariants as state_of
use Rattle.pool_book.specs.Pool.{Pool, is_closed, is_paused}
use Rattle.host_name.specs.Addresses.{Address}
use Rattle.desk_trail.specs.declared.entry.Entry.{Entry}
use Rattle.desk_trail.specs.declared.step.Step.{Step}
use Rattle.desk_trail.specs.Clients.{Client}
use Rattle.desk_trail.specs.Facts.{Fact, Lists}
use Rattle.desk_trail.specs.Facts as fact
use Rattle.desk_trail.specs.Legal.{Point, StandsAt, client_after, owes, time_by}
use Rattle.desk_trail.specs.Owed.{Owed, left_owed}
use Rattle.desk_trail.specs.Owed as owed
use Rattle.desk_trail.specs.Pools.{with_pool}
use Rattle.desk_trail.specs.States.{ClientState, ServerState, changed_at, number_of, with_server}
use Rattle.desk_trail.specs.Topologies.{is_paused_at, readied}
use Rattle.desk_trail.specs.Written.{an_entry, with_entry}
use Rattle.legal_trail.specs.Recorded.{Adds, Recorded}
use Rattle.wired_trail.specs.Lines.{Lines as WireLines}
use Rattle.desk_core.specs.Kept.{IsKept, IsWriting, LeadsTo, client_of}
use Rattle.desk_core.specs.Servers.{AreKeptServers, IsKeptServer, closing_of, closings}
use Rattle.desk_core.specs.State.{Core}
use Rattle.desk_core.proofs.KeptLemmas.{restated}
use Rattle.desk_core.proofs.ServerLemmas.{AreKeptServers-more, AreKeptServers-set, closing_of-kept, closings-set_kept, map-set, number_from-set, stands_at-kept}

-- ---- What is read off the point

pub servers-led : (trail : Recorded) (lines : WireLines) (topology : Topology) (servers : List ServerState) (time : Option ClusterTime) (last : ℕ) →
    LeadsTo trail lines topology servers time last → trail.point.state.servers ≡ servers
servers-led trail lines topology servers time last l = ap (λ (w : ClientState). w.servers) l.state

pub at-servers : (trail : Recorded) (lines : WireLines) (topology : Topology) (servers : List ServerState) (time : Option ClusterTime) (last x : ℕ) (s : ServerState) →
    LeadsTo trail lines topology servers time last → slice_get trail.point.state.servers x ≡ Some s → slice_get servers x ≡ Some s
at-servers trail lines topology servers time last x s l there = sym (ap (λ (ss : List ServerState). slice_get ss x) (servers-led trail lines topology servers time last l)) ∙ there

pub paused-there : (o : Option ServerState) → option_map_or (λ (s : ServerState). is_paused s.pool.state.state) o false ≡ true →
    (s : ServerState) × (o ≡ Some s) × (is_paused s.pool.state.state ≡ true)
paused-there None h = absurd (cc)
paused-there (Some s) h = (s, refl, h)

-- ---- A pool's entry may stand where it is owed

pub StandsAt-ready : (client : Client) (p : Point) (moment host : ℕ) (rest : List Owed) (s : ServerState) → p.owed ≡ owed.PoolReady host ∷ rest →
    p.moment ≡ moment → p.state.is_ending ≡ false → slice_get p.state.servers host ≡ Some s → s.pool.owed ≡ [] → is_paused s.pool.state.state ≡ true →
    StandsAt client p (record { at = moment; what = fact.PoolReady host })
StandsAt-ready client p moment host rest s o m going there paid paused = record {
  time = rw o (sym m);
  turn = rw o refl;
  going = rw going tt;
  rule = (s, there, rw paid paused);
  command = tt;
}

pub StandsAt-clear : (client : Client) (p : Point) (moment host : ℕ) (rest : List Owed) (s : ServerState) → p.owed ≡ owed.PoolClear host ∷ rest →
    p.moment ≡ moment → p.state.is_ending ≡ false → slice_get p.state.servers host ≡ Some s → s.pool.owed ≡ [] →
    StandsAt client p (record { at = moment; what = fact.PoolClear host })
StandsAt-clear client p moment host rest s o m going there paid = record {
  time = rw o (sym m);
  turn = rw o refl;
  going = rw going tt;
  rule = (s, there, rw paid tt);
  command = tt;
}

-- ---- Where the trail leads

-- an entry that changes one server, which stays as far as its place in the topology goes
pub record Changes (old : Recorded) (moment host : ℕ) (f : Fact) (g : ServerState → ServerState) : Type 0 where
  pub state : client_after old.client moment old.point.state f ≡ with_server old.point.state host g
  pub time : time_by old.point.time f ≡ old.point.time
  pub owes : owes old.client moment old.point.state f ≡ []
  pub address : (s : ServerState) → (g s).address ≡ s.address
  pub has_left : (s : ServerState) → (g s).has_left ≡ s.has_left
  pub closing : (s : ServerState) → closing_of (g s) ≡ closing_of s

-- as many connections are available
available-ready : (moment : ℕ) (p : Pool) (os : List PoolEntry) → (place_by pool_judge p os (record { at = moment; what = pool.Ready })).state.available ≡ p.available
available-ready moment p [] = refl
available-ready moment p (o ∷ os) = refl

available-clear : (moment : ℕ) (p : Pool) (os : List PoolEntry) → (place_by pool_judge p os (record { at = moment; what = pool.Clear })).state.available ≡ p.available
available-clear moment p [] = refl
available-clear moment p (o ∷ os) = refl

pub Changes-ready : (old : Recorded) (moment host : ℕ) → Changes old moment host (fact.PoolReady host) (with_pool moment pool.Ready)
Changes-ready old moment host = record {
  state = refl;
  time = refl;
  owes = refl;
  address = λ s. refl;
  has_left = λ s. refl;
  closing = λ s. closing_of-kept s (with_pool moment pool.Ready s) refl (ap length (available-ready moment s.pool.state s.pool.owed));
}

pub Changes-clear : (old : Recorded) (moment host : ℕ) → Changes old moment host (fact.PoolClear host) (with_pool moment pool.Clear)
Changes-clear old moment host = record {
  state = refl;
  time = refl;
  owes = refl;
  address = λ s. refl;
  has_left = λ s. refl;
  closing = λ s. closing_of-kept s (with_pool moment pool.Clear s) refl (ap length (available-clear moment s.pool.state s.pool.owed));
}

length-with_entry : (steps : List Step) (moment : ℕ) (e : Entry) → length (with_entry steps moment e) ≡ length steps + 1
length-with_entry [] moment e = refl
length-with_entry (s ∷ ss) moment e = let k = length-with_entry ss moment e in omega arith

-- the client's servers behind it
pub servers-changed : (old new : Recorded) (lines : WireLines) (topology : Topology) (servers : List ServerState) (time : Option ClusterTime) (last moment host : ℕ)
    (e : Entry) (f : Fact) (g : ServerState → ServerState) (s : ServerState) → LeadsTo old lines topology servers time last →
    Adds an_entry old.lists moment e f old new → Changes old moment host f g → slice_get servers host ≡ Some s →
    new.point.state ≡ client_of old topology (slice_set servers host (g s))
servers-changed old new lines topology servers time last moment host e f g s l a c there =
    ap (λ (p : Point). p.state) a.point_now ∙ c.state ∙ ap (λ (w : ClientState). with_server w host g) l.state
    ∙ ap (λ (o : Option ServerState). client_of old topology (changed_at servers host o g)) there

pub LeadsTo-changed : (old new : Recorded) (lines : WireLines) (topology : Topology) (servers : List ServerState) (time : Option ClusterTime) (last moment host : ℕ)
    (e : Entry) (f : Fact) (g : ServerState → ServerState) (s : ServerState) → LeadsTo old lines topology servers time last →
    Adds an_entry old.lists moment e f old new → Changes old moment host f g → slice_get servers host ≡ Some s → moment ≤ last →
    closings servers + 1 ≤ old.room.steps → IsKeptServer lines (length old.steps + 1) host (g s) →
    LeadsTo new lines topology (slice_set servers host (g s)) time last
LeadsTo-changed old new lines topology servers time last moment host e f g s l a c there in_time space one =
    let state = servers-changed old new lines topology servers time last moment host e f g s l a c there in
    let longer : length new.steps ≡ length old.steps + 1 = ap length a.steps_now ∙ length-with_entry old.steps moment e in
    let stand = closings-set_kept servers host s (g s) there (c.closing s) in
    let used : old.room.steps ≡ new.room.steps + 1 = a.room_used.steps in
    record {
      state =
          restated new (client_of old topology (slice_set servers host (g s))) (length old.lists.events) (length old.lists.requests) topology (slice_set servers host (g s)) state refl
          (ap (λ (l : Lists). length l.events) (sym a.lists_now)) (ap (λ (l : Lists). length l.requests) (sym a.lists_now));
      greatest = ap (λ (p : Point). p.time) a.point_now ∙ c.time ∙ l.greatest;
      moment = subst (λ (p : Point). p.moment ≤ last) (sym a.point_now) in_time;
      names = ap (λ (x : Lists). x.names) a.lists_now ∙ l.names
          ∙ sym (map-set (λ (u : ServerState). u.address) servers host (g s) s there (c.address s));
      numbers = let n = l.numbers in let k = length-set servers host (g s) in omega arith;
      room = omega arith;
      kept = subst (λ n. AreKeptServers lines n (slice_set servers host (g s))) (sym longer)
          (AreKeptServers-set lines (length old.steps + 1) servers host (g s) (AreKeptServers-more lines (length old.steps) (length old.steps + 1) servers (omega arith) l.kept) one);
    }

-- a desk keeps what it keeps
pub IsKept-changed : (old new : Recorded) (lines next : WireLines) (topology : Topology) (servers : List ServerState) (time : Option ClusterTime) (count last : ℕ) (stopped : Bool)
    (moment host n : ℕ) (e : Entry) (f : Fact) (g : ServerState → ServerState) (s u : ServerState) → IsKept old lines topology servers time count last stopped →
    stopped ≡ false → next ≡ lines → Adds an_entry old.lists moment e f old new → Changes old moment host f g → slice_get servers host ≡ Some s → u ≡ g s →
    last ≡ moment → count + (n + 1) ≤ old.room.steps → IsKeptServer lines (length old.steps + 1) host (g s) →
    IsKept new next topology (slice_set servers host u) time count last stopped
IsKept-changed old new lines next topology servers time count last stopped moment host n e f g s u k runs same a c there is now space one =
    let counted = k.counted in
    subst (λ (x : WireLines). IsKept new x topology (slice_set servers host u) time count last stopped) (sym same)
    (subst (λ (v : ServerState). IsKept new lines topology (slice_set servers host v) time count last stopped) (sym is) (record {
      leads = λ r. LeadsTo-changed old new lines topology servers time last moment host e f g s (k.leads runs) a c there (omega arith) (omega arith) one;
      counted = k.counted ∙ sym (closings-set_kept servers host s (g s) there (c.closing s));
      in_range = k.in_range;
    }))

-- each address has the number that it had
pub number_of-changed : (old new : Recorded) (lines : WireLines) (topology : Topology) (servers : List ServerState) (time : Option ClusterTime) (last moment host : ℕ)
    (e : Entry) (f : Fact) (g : ServerState → ServerState) (s : ServerState) (a : Address) → LeadsTo old lines topology servers time last →
    Adds an_entry old.lists moment e f old new → Changes old moment host f g → slice_get servers host ≡ Some s →
    number_of new.point.state a ≡ number_of old.point.state a
number_of-changed old new lines topology servers time last moment host e f g s a l adds c there =
    ap (λ (w : ClientState). number_of w a) (servers-changed old new lines topology servers time last moment host e f g s l adds c there)
    ∙ number_from-set 0 servers host s (g s) a there (stands_at-kept a s (g s) (c.address s) (c.has_left s))
    ∙ sym (ap (λ (w : ClientState). number_of w a) l.state)

-- ---- What it writes next

pub IsWriting-next : {N : Type 0} (d e : Core N) (lists : Lists) (moment n : ℕ) (first : Owed) (rest : List Owed) (entry : Entry) (f : Fact) →
    IsWriting d moment (n + 1) (first ∷ rest) → Adds an_entry lists moment entry f d.trail e.trail → owes d.trail.client moment d.trail.point.state f ≡ [] →
    left_owed (first ∷ rest) f ≡ rest → e.is_stopped ≡ d.is_stopped → e.last ≡ d.last → e.closings ≡ d.closings → IsWriting e moment n rest
IsWriting-next d e lists moment n first rest entry f w a none left stopped last stand =
    let used : d.trail.room.steps ≡ e.trail.room.steps + 1 = a.room_used.steps in
    let space : d.closings + (n + 1) ≤ d.trail.room.steps = w.space in
    record {
      runs = stopped ∙ w.runs;
      owes = ap (λ (p : Point). p.owed) a.point_now ∙ ap (λ (xs : List Owed). xs ++ left_owed d.trail.point.owed f) none
          ∙ ap (λ (xs : List Owed). left_owed xs f) w.owes ∙ left;
      at = ap (λ (p : Point). p.moment) a.point_now;
      now = last ∙ w.now;
      space = omega arith;
    }

pub IsWriting-less : {N : Type 0} (d : Core N) (moment n : ℕ) (xs : List Owed) → IsWriting d moment (n + 1) xs → IsWriting d moment n xs
IsWriting-less d moment n xs w = record { runs = w.runs; owes = w.owes; at = w.at; now = w.now; space = let space = w.space in omega arith }

-- what a pool that moves owes, by its host
pub readied-paused : (w : ClientState) (o : Option ℕ) (x : ℕ) → o ≡ Some x → is_paused_at w x ≡ true → readied w o ≡ owed.PoolReady x ∷ []
readied-paused w o x e p = ap (readied w) e ∙ ap (λ (b : Bool). if b then owed.PoolReady x ∷ [] else []) p

pub readied-other : (w : ClientState) (o : Option ℕ) (x : ℕ) → o ≡ Some x → is_paused_at w x ≡ false → readied w o ≡ []
readied-other w o x e p = ap (readied w) e ∙ ap (λ (b : Bool). if b then owed.PoolReady x ∷ [] else []) p

pub is_paused_at-there : (w : ClientState) (x : ℕ) (s : ServerState) → slice_get w.servers x ≡ Some s → is_paused_at w x ≡ is_paused s.pool.state.state
is_paused_at-there w x s there = ap (λ (o : Option ServerState). option_map_or (λ u. is_paused u.pool.state.state) o false) there

-- ---- What is kept of a server whose pool moves

pub IsKeptServer-ready : (lines : WireLines) (m moment x : ℕ) (s : ServerState) → IsKeptServer lines m x s → IsKeptServer lines (m + 1) x (with_pool moment pool.Ready s)
IsKeptServer-ready lines m moment x s k = record {
  paid = rw k.paid refl;
  is_open = λ stays. rw k.paid refl;
  generation = let g = k.generation in rw k.paid (omega arith);
  entered = let g = k.entered in rw k.paid (omega arith);
  checked = k.checked;
  paced = k.paced;
}

cleared_open : (s : ServerState) → is_closed s.pool.state.state ≡ false → is_closed (pool.cleared_state s.pool.state.state) ≡ false
cleared_open s h = elim s.pool.state.state as (λ p. is_closed p ≡ false → is_closed (pool.cleared_state p) ≡ false) [
  | state_of.Paused ↦ λ e. refl
  | state_of.Ready ↦ λ e. refl
  | state_of.Closed ↦ λ e. e
] h

pub IsKeptServer-clear : (lines : WireLines) (m moment x : ℕ) (s : ServerState) → IsKeptServer lines m x s → IsKeptServer lines (m + 1) x (with_pool moment pool.Clear s)
IsKeptServer-clear lines m moment x s k = record {
  paid = rw k.paid refl;
  is_open = λ stays. rw k.paid (cleared_open s (k.is_open stays));
  generation = let g = k.generation in rw k.paid (omega arith);
  entered = let g = k.entered in rw k.paid (omega arith);
  checked = k.checked;
  paced = k.paced;
}
