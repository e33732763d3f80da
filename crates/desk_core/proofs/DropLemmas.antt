-- A server leaves the topology, and its pool is closed.
use Rattle.std.proofs.Common.{◌≡◌, ◌≤◌, ℕ, ◌+◌, ◌-◌, Bool, true, false, not, List, [], ◌∷◌, ◌++◌, length, drop, get_or, Option, None, Some, refl, sym, ap, ◌∙◌, subst, arith, inl, inr}
use Rattle.std.specs.Prelude.{slice_get, slice_set, IfSome, if◌then◌else◌}
use Rattle.std.proofs.Math.Seq.{set-set}
use Rattle.std.proofs.lemmas.List.{length-set}
use Rattle.std.proofs.lemmas.Option.{slice_get_read, slice_get_within}
use Rattle.bson_doc.specs.declared.cluster_time.ClusterTime.{ClusterTime}
use Rattle.pool_book.specs.Entries as pool
use Rattle.pool_book.specs.Pool.{is_closed}
use Rattle.host_name.specs.Addresses.{Address, is_same_address}
use Rattle.topo_rules.specs.declared.topology.Topology.{Topology}
use Rattle.desk_trail.specs.declared.entry.Entry.{Entry}
use Rattle.desk_trail.specs.Checks.{leaves}
use Rattle.desk_trail.specs.Clients.{Client}
use Rattle.desk_trail.specs.Facts.{Lists}
use Rattle.desk_trail.specs.Facts as fact
use Rattle.desk_trail.specs.Legal.{Point, StandsAt, pool_after, stays_at}
use Rattle.desk_trail.specs.Owed.{Owed}
use Rattle.desk_trail.specs.Owed as owed
use Rattle.desk_trail.specs.Pools.{with_pool}
use Rattle.desk_trail.specs.States.{ClientState, ServerState, Stays}
use Rattle.desk_trail.specs.Written.{an_entry}
use Rattle.legal_trail.specs.Recorded.{Adds, Recorded}
use Rattle.server_state.specs.PoolMoves.{behind_group}
use Rattle.wired_trail.specs.Lines.{IsThere, KeepsOthers, Lines}
use Rattle.desk_core.specs.Kept.{IsKept, LeadsTo}
use Rattle.desk_core.specs.Leaving.{Drops, dropped, is_of_host}
use Rattle.desk_core.specs.Moves.{Moves}
use Rattle.desk_core.specs.Servers.{HasStream, IsKeptServer, IsUntouched, closings}
use Rattle.desk_core.specs.Shutting.{KeepsUses, Shuts, is_of_pool, owed_shuts, owing}
use Rattle.desk_core.proofs.KeptLemmas.{LeadsTo-moves, Moves-trans, length-with_entry, servers-of}
use Rattle.desk_core.proofs.ServerLemmas.{AreKeptServers-more, IsUntouched-set, closing_of-stays, closings-set, map-set, slice_get-set_same}
use Rattle.desk_core.proofs.ShutLemmas.{changed-there, pool_owes-shut, with_pool-shut}
use Rattle.desk_core.proofs.UseLemmas.{AreKeptServers-left, KeepsUses-closed, KeepsUses-same, KeepsUses-trans, KeepsUses-weaken}

-- ---- The server

pub IsKeptServer-dropped : (lines before : Lines) (m n x moment : ℕ) (s : ServerState) → m ≤ n → IsKeptServer before m x s → IsKeptServer lines n x (dropped moment s)
IsKeptServer-dropped lines before m n x moment s more k = record {
  paid = refl;
  is_open = λ stays. absurd (cc);
  generation = let less = k.generation in omega arith;
  entered = let less = k.entered in omega arith;
  checked = refl;
  paced = k.paced;
}

-- a server of a desk that runs, which stands in the topology
pub record IsStanding (trail : Recorded) (lines : Lines) (ss : List ServerState) (host : ℕ) : Type 0 where
  pub server : ServerState
  pub there : slice_get ss host ≡ Some server
  pub at_point : slice_get trail.point.state.servers host ≡ Some server
  pub stays : server.has_left ≡ false
  pub kept : IsKeptServer lines (length trail.steps) host server
  pub going : trail.point.state.is_ending ≡ false

pub IsStanding-of : (trail : Recorded) (lines : Lines) (topology : Topology) (ss : List ServerState) (time : Option ClusterTime) (count last : ℕ) (stopped : Bool) (host : ℕ) →
    IsKept trail lines topology ss time count last stopped → stopped ≡ false → Stays trail.point.state host → IsStanding trail lines ss host
IsStanding-of trail lines topology ss time count last stopped host k runs s =
    let h = k.leads runs in
    let there : slice_get ss host ≡ Some s.server = ap (λ zs. slice_get zs host) (sym (servers-of trail lines topology ss time last h)) ∙ s.there in
    record {
      server = s.server;
      there = there;
      at_point = s.there;
      stays = s.stays;
      kept = h.kept host s.server there;
      going = ap (λ (w : ClientState). w.is_ending) h.state;
    }

-- ---- When the entries may stand

pub StandsAt-dropped : (client : Client) (p : Point) (moment host : ℕ) (rest : List Owed) → p.owed ≡ owed.Dropped host ∷ rest → p.moment ≡ moment →
    p.state.is_ending ≡ false → Stays p.state host → StandsAt client p (record { at = moment; what = fact.Dropped host })
StandsAt-dropped client p moment host rest owes at going stays = record {
  time = rw owes (sym at);
  turn = rw owes refl;
  going = rw going tt;
  rule = stays;
  command = tt;
}

pub StandsAt-shut : (client : Client) (p : Point) (moment host : ℕ) (rest : List Owed) (s : ServerState) → p.owed ≡ owed.PoolShut host ∷ rest → p.moment ≡ moment →
    p.state.is_ending ≡ false → slice_get p.state.servers host ≡ Some s → s.pool.owed ≡ [] → is_closed s.pool.state.state ≡ false →
    StandsAt client p (record { at = moment; what = fact.PoolShut host })
StandsAt-shut client p moment host rest s owes at going there paid is_open = record {
  time = rw owes (sym at);
  turn = rw owes refl;
  going = rw going tt;
  rule = (s, there, rw paid is_open);
  command = tt;
}

-- ---- What they change

-- a change of the server of a list in which that server changed before
pub Moves-at : (old new : Recorded) (ss : List ServerState) (host : ℕ) (s t : ServerState) → old.point.state.servers ≡ slice_set ss host s →
    Moves old new (slice_set old.point.state.servers host t) → Moves old new (slice_set ss host t)
Moves-at old new ss host s t before m = subst (λ zs. Moves old new zs) (ap (λ zs. slice_set zs host t) before ∙ set-set ss host s t) m

-- behind the first entry: the server left, and the closing of its pool must come next
pub record Leaves (old new : Recorded) (moment host : ℕ) (s : ServerState) : Type 0 where
  pub moves : Moves old new (slice_set old.point.state.servers host (leaves s))
  pub here : slice_get new.point.state.servers host ≡ Some (leaves s)
  pub going : new.point.state.is_ending ≡ old.point.state.is_ending
  pub next : (rest : List Owed) → old.point.owed ≡ owed.Dropped host ∷ rest → new.point.owed ≡ owed.PoolShut host ∷ rest
  pub at : new.point.moment ≡ moment
  pub lists : new.lists ≡ old.lists
  pub steps : length new.steps ≡ length old.steps + 1
  pub room : old.room.steps ≡ new.room.steps + 1

pub Leaves-by : (old new : Recorded) (moment host : ℕ) (s : ServerState) (e : Entry) → slice_get old.point.state.servers host ≡ Some s →
    Adds an_entry old.lists moment e (fact.Dropped host) old new → Leaves old new moment host s
Leaves-by old new moment host s e there a =
    let ss = old.point.state.servers in
    let state : new.point.state ≡ record old.point.state { servers = slice_set ss host (leaves s) } =
    ap (λ (p : Point). p.state) a.point_now
    ∙ ap (λ (zs : List ServerState). record old.point.state { servers = zs }) (changed-there ss host leaves s there) in
    record {
      moves = record {
        client = a.same_client;
        events = ap (λ (l : Lists). l.events) a.lists_now;
        requests = ap (λ (l : Lists). l.requests) a.lists_now;
        state = state;
        time = ap (λ (p : Point). p.time) a.point_now;
      };
      here = ap (λ (w : ClientState). slice_get w.servers host) state ∙ slice_get-set_same ss host (leaves s) s there;
      going = ap (λ (w : ClientState). w.is_ending) state;
      next = λ rest h. ap (λ (p : Point). p.owed) a.point_now ∙ ap (λ (os : List Owed). owed.PoolShut host ∷ drop 1 os) h;
      at = ap (λ (p : Point). p.moment) a.point_now;
      lists = a.lists_now;
      steps = ap length a.steps_now ∙ length-with_entry old.steps moment e;
      room = a.room_used.steps;
    }

stays_at-left : (o : Option ServerState) (s : ServerState) → o ≡ Some s → s.has_left ≡ true → stays_at o ≡ false
stays_at-left o s h left = ap stays_at h ∙ ap not left

-- behind the second one: its pool owes that each available connection is shut
pub record Closes (old new : Recorded) (moment host : ℕ) (s : ServerState) : Type 0 where
  pub moves : Moves old new (slice_set old.point.state.servers host (owing s.pool.state.available (behind_group moment pool.Shut s)))
  pub here : slice_get new.point.state.servers host ≡ Some (owing s.pool.state.available (behind_group moment pool.Shut s))
  pub next : (rest : List Owed) → old.point.owed ≡ owed.PoolShut host ∷ rest → new.point.owed ≡ owed_shuts host s.pool.state.available ++ rest
  pub at : new.point.moment ≡ moment
  pub lists : new.lists ≡ old.lists
  pub steps : length new.steps ≡ length old.steps + 1
  pub room : old.room.steps ≡ new.room.steps + 1

pub Closes-by : (old new : Recorded) (moment host : ℕ) (s : ServerState) (e : Entry) → slice_get old.point.state.servers host ≡ Some s → s.has_left ≡ true → s.pool.owed ≡ [] →
    Adds an_entry old.lists moment e (fact.PoolShut host) old new → Closes old new moment host s
Closes-by old new moment host s e there left paid a =
    let w = old.point.state in
    let t = owing s.pool.state.available (behind_group moment pool.Shut s) in
    let v = pool_after w moment (fact.PoolShut host) in
    let state : new.point.state ≡ record w { servers = slice_set w.servers host t } =
    ap (λ (p : Point). p.state) a.point_now
    ∙ ap (λ (b : Bool). if b then record v { is_ending = true } else v) (stays_at-left (slice_get w.servers host) s there left)
    ∙ ap (λ (ss : List ServerState). record w { servers = ss })
    (changed-there w.servers host (with_pool moment pool.Shut) s there ∙ ap (slice_set w.servers host) (with_pool-shut moment s paid)) in
    record {
      moves = record {
        client = a.same_client;
        events = ap (λ (l : Lists). l.events) a.lists_now;
        requests = ap (λ (l : Lists). l.requests) a.lists_now;
        state = state;
        time = ap (λ (p : Point). p.time) a.point_now;
      };
      here = ap (λ (x : ClientState). slice_get x.servers host) state ∙ slice_get-set_same w.servers host t s there;
      next = λ rest h.
          ap (λ (p : Point). p.owed) a.point_now
          ∙ ap (λ (os : List Owed). os ++ drop 1 old.point.owed) (pool_owes-shut w host s there paid)
          ∙ ap (λ (os : List Owed). owed_shuts host s.pool.state.available ++ drop 1 os) h;
      at = ap (λ (p : Point). p.moment) a.point_now;
      lists = a.lists_now;
      steps = ap length a.steps_now ∙ length-with_entry old.steps moment e;
      room = a.room_used.steps;
    }

-- behind all of them
pub Drops-by : (old first second new : Recorded) (moment host : ℕ) (s : ServerState) → Leaves old first moment host s → Closes first second moment host (leaves s) →
    Shuts moment host s.pool.state.available (behind_group moment pool.Shut (leaves s)) second new → Drops moment host s old new
Drops-by old first second new moment host s l c h =
    let ss = old.point.state.servers in
    let t : ServerState = leaves s in
    let u : ServerState = owing s.pool.state.available (behind_group moment pool.Shut t) in
    let d : ServerState = dropped moment s in
    let two : Moves first second (slice_set ss host u) = Moves-at first second ss host t u (ap (λ (w : ClientState). w.servers) l.moves.state) c.moves in
    let three : Moves second new (slice_set ss host d) = Moves-at second new ss host u d (ap (λ (w : ClientState). w.servers) two.state) h.moves in
    let one_more = l.steps in
    let two_more = c.steps in
    let more = h.steps in
    let one_used = l.room in
    let two_used = c.room in
    let used = h.room in
    record {
      moves = Moves-trans old second new (slice_set ss host u) (slice_set ss host d) (Moves-trans old first second (slice_set ss host t) (slice_set ss host u) l.moves two) three;
      next = λ rest o. h.next rest (c.next rest (l.next rest o));
      at = h.at;
      lists = h.lists ∙ c.lists ∙ l.lists;
      steps = omega (arith, one_more, two_more, more);
      room = omega (arith, one_used, two_used, used);
    }

-- ---- What is kept

-- the stream of its checks
pub IsThere-checked : (lines now : Lines) (x : ℕ) (began o stream : Option ℕ) → HasStream lines x began o → now ≡ lines → stream ≡ o → IfSome stream (λ s. IsThere now s)
IsThere-checked lines now x began o stream h same is =
    subst (λ (l : Lines). IfSome stream (λ s. IsThere l s)) (sym same) (subst (λ (n : Option ℕ). IfSome n (λ s. IsThere lines s)) (sym is) (by o h))
  where
    by : (o : Option ℕ) → HasStream lines x began o → IfSome o (λ s. IsThere lines s)
    by None h = tt
    by (Some s) h = record { line = h.0; there = h.1 }

-- is closed behind those of its connections
pub KeepsUses-left : (old between new : Lines) (host : ℕ) (began o : Option ℕ) → HasStream between host began o → KeepsUses (is_of_pool host) old between →
    IfSome o (λ s. KeepsOthers s between new) → (o ≡ None → new ≡ between) → KeepsUses (is_of_host host) old new
KeepsUses-left old between new host began o h first others none =
    KeepsUses-trans (is_of_host host) old between new (KeepsUses-weaken (is_of_pool host) (is_of_host host) old between (λ u of. inr of) first) (by o h others none)
  where
    by : (o : Option ℕ) → HasStream between host began o → IfSome o (λ s. KeepsOthers s between new) → (o ≡ None → new ≡ between) → KeepsUses (is_of_host host) between new
    by None h others none = KeepsUses-same (is_of_host host) between new (none refl)
    by (Some s) h others none = KeepsUses-closed (is_of_host host) between new s h.0 h.1 (inl h.2) others

pub closings-dropped : (ss : List ServerState) (host moment : ℕ) (s : ServerState) → slice_get ss host ≡ Some s → s.has_left ≡ false →
    closings (slice_set ss host (dropped moment s)) + (length s.pool.state.available + 1) ≡ closings ss
closings-dropped ss host moment s there stays =
    let set = closings-set ss host s (dropped moment s) there in
    let is = closing_of-stays s stays in
    omega (arith, set, is)

pub LeadsTo-dropped : (old new : Recorded) (before lines : Lines) (topology : Topology) (ss : List ServerState) (time : Option ClusterTime) (last moment host : ℕ) (s : ServerState) →
    Drops moment host s old new → slice_get ss host ≡ Some s → s.has_left ≡ false → moment ≤ last → closings ss + 1 ≤ old.room.steps → KeepsUses (is_of_host host) before lines →
    LeadsTo old before topology ss time last → LeadsTo new lines topology (slice_set ss host (dropped moment s)) time last
LeadsTo-dropped old new before lines topology ss time last moment host s d there stays now room uses h =
    let t = dropped moment s in
    let address : ServerState → Address = λ u. u.address in
    let is = servers-of old before topology ss time last h in
    let m : Moves old new (slice_set ss host t) = subst (λ zs. Moves old new (slice_set zs host t)) is d.moves in
    let fewer = closings-dropped ss host moment s there stays in
    let steps = d.steps in
    let used = d.room in
    let at = d.at in
    let numbers = h.numbers in
    let kept = AreKeptServers-more before (length old.steps) (length new.steps) ss (omega arith) h.kept in
    LeadsTo-moves old new before lines topology ss (slice_set ss host t) time last m (omega arith)
    (ap (λ (l : Lists). l.names) d.lists ∙ h.names ∙ sym (map-set address ss host t s there refl)) (rw length-set numbers) (omega arith)
    (AreKeptServers-left before lines (length new.steps) host ss t uses kept
    (IsKeptServer-dropped lines before (length old.steps) (length new.steps) host moment s (omega arith) (h.kept host s there)))
    h

pub IsKept-dropped : (old new : Recorded) (before lines : Lines) (topology : Topology) (ss : List ServerState) (time : Option ClusterTime) (count last moment host n : ℕ) (stopped : Bool)
    (s t : ServerState) → Drops moment host s old new → slice_get ss host ≡ Some s → s.has_left ≡ false → moment ≤ last → count + 1 ≤ old.room.steps →
    n ≡ length s.pool.state.available + 1 → KeepsUses (is_of_host host) before lines → t ≡ dropped moment s →
    IsKept old before topology ss time count last stopped → IsKept new lines topology (slice_set ss host t) time (count - n) last stopped
IsKept-dropped old new before lines topology ss time count last moment host n stopped s t d there stays now room size uses is k =
    let fewer = closings-dropped ss host moment s there stays in
    let counted = k.counted in
    subst (λ (u : ServerState). IsKept new lines topology (slice_set ss host u) time (count - n) last stopped) (sym is)
    (record {
      leads = λ runs. LeadsTo-dropped old new before lines topology ss time last moment host s d there stays now (omega arith) uses (k.leads runs);
      counted = omega (arith, fewer, counted, size);
      in_range = k.in_range;
    })

-- the item that was read is that server
pub read-there : (ss : List ServerState) (host : ℕ) (s x : ServerState) → slice_get ss host ≡ Some s → x ≡ get_or ss host x → x ≡ s
read-there ss host s x there read =
    let is : slice_get ss host ≡ Some x = slice_get_read ss (length ss) host x refl (slice_get_within ss host s there) read in
    let same : Some x ≡ Some s = sym is ∙ there in
    (cc)

pub IsUntouched-dropped : (old new : Recorded) (moment host : ℕ) (s t : ServerState) (a : Address) → Drops moment host s old new →
    slice_get old.point.state.servers host ≡ Some s → slice_get old.point.state.servers host ≡ Some t → is_same_address t.address a ≡ false →
    IsUntouched old.point.state new.point.state a
IsUntouched-dropped old new moment host s t a d there also differ =
    let is : t ≡ s = let same : Some t ≡ Some s = sym also ∙ there in (cc) in
    IsUntouched-set old.point.state new.point.state host s (dropped moment s) a there (ap (λ (w : ClientState). w.servers) d.moves.state) refl
    (ap (λ (u : ServerState). is_same_address u.address a) (sym is) ∙ differ)
