-- The connections that were available in a pool that is closed are shut.
use Rattle.std.proofs.Common.{◌≡◌, ◌≤◌, ◌<◌, ◌⊎◌, inl, inr, ℕ, zero, suc, ◌+◌, Bool, true, false, List, [], ◌∷◌, ◌++◌, map, length, Some, refl, sym, ap, ◌∙◌, subst, arith}
use Rattle.std.specs.Prelude.{slice_get, slice_set, if◌then◌else◌}
use Rattle.std.proofs.Math.ListN.{drop}
use Rattle.std.proofs.lemmas.Bool.{cases_lt}
use Rattle.std.proofs.Math.Seq.{set-set}
use Rattle.entry_judge.specs.declared.timed.Timed.{Timed}
use Rattle.entry_judge.specs.Groups as judge
use Rattle.pool_book.specs.Pool.{is_closed}
use Rattle.pool_book.specs.Entries as pool
use Rattle.pool_book.specs.Entries.{PoolEntry}
use Rattle.pool_book.specs.Judge.{pool_judge}
use Rattle.pool_book.specs.declared.answers.CloseReason.TheVariants.{PoolClosed}
use Rattle.pool_book.specs.declared.connections.Available.{Available}
use Rattle.desk_trail.specs.declared.entry.Entry.{Entry}
use Rattle.desk_trail.specs.Clients.{Client}
use Rattle.desk_trail.specs.Facts.{Lists}
use Rattle.desk_trail.specs.Facts as fact
use Rattle.desk_trail.specs.Legal.{InTime, MayGoOn, Point, StandsAt, point_after, pool_after, stays_at}
use Rattle.desk_trail.specs.Owed.{InTurn, Owed}
use Rattle.desk_trail.specs.Owed as owed
use Rattle.desk_trail.specs.Pools.{owed_of, pool_owes, with_pool}
use Rattle.desk_trail.specs.States.{ClientState, ServerState, changed, changed_at}
use Rattle.desk_trail.specs.Written.{an_entry}
use Rattle.legal_trail.specs.Recorded.{Adds, Recorded}
use Rattle.server_state.specs.PoolMoves.{behind_group}
use Rattle.desk_core.specs.Moves.{Moves}
use Rattle.desk_core.specs.Servers.{closing_of, closings}
use Rattle.desk_core.specs.Shutting.{Shuts, owed_shuts, owing, pool_shuts}
use Rattle.desk_core.proofs.KeptLemmas.{length-with_entry}
use Rattle.desk_core.proofs.ServerLemmas.{slice_get-set_other, slice_get-set_same}

pub changed-there : {A : Type 0} (xs : List A) (k : ℕ) (f : A → A) (x : A) → slice_get xs k ≡ Some x → changed xs k f ≡ slice_set xs k (f x)
changed-there xs k f x h = ap (λ o. changed_at xs k o f) h

set-there : {A : Type 0} (xs : List A) (k : ℕ) (x : A) → slice_get xs k ≡ Some x → slice_set xs k x ≡ xs
set-there [] k x h = absurd (cc)
set-there (z ∷ zs) zero x h = let is : z ≡ x = (cc) in ap (λ y. y ∷ zs) (sym is)
set-there (z ∷ zs) (suc k) x h = ap (λ ys. z ∷ ys) (set-there zs k x h)

-- ---- Part of them were shut

-- those that are left must be shut next
pub record AreShutting (moment host : ℕ) (all left : List Available) (s : ServerState) (old new : Recorded) : Type 0 where
  pub moves : Moves old new (slice_set old.point.state.servers host (owing left s))
  pub here : slice_get new.point.state.servers host ≡ Some (owing left s)
  pub next : (rest : List Owed) → old.point.owed ≡ owed_shuts host all ++ rest → new.point.owed ≡ owed_shuts host left ++ rest
  pub at : new.point.moment ≡ moment
  pub lists : new.lists ≡ old.lists
  pub steps : length new.steps + length left ≡ length old.steps + length all
  pub room : old.room.steps + length left ≡ new.room.steps + length all

pub shutting-none : (moment host : ℕ) (all : List Available) (s : ServerState) (old : Recorded) → slice_get old.point.state.servers host ≡ Some (owing all s) →
    old.point.moment ≡ moment → AreShutting moment host all all s old old
shutting-none moment host all s old there at = record {
  moves = record {
    client = refl;
    events = refl;
    requests = refl;
    state = ap (λ (ss : List ServerState). record old.point.state { servers = ss }) (sym (set-there old.point.state.servers host (owing all s) there));
    time = refl;
  };
  here = there;
  next = λ rest h. h;
  at = at;
  lists = refl;
  steps = refl;
  room = refl;
}

goes_on-shut : (host conn : ℕ) (b : Bool) → MayGoOn b (fact.ConnShut host conn PoolClosed)
goes_on-shut host conn true = tt
goes_on-shut host conn false = tt

pub StandsAt-conn_shut : (client : Client) (p : Point) (moment host : ℕ) (a : Available) (left : List Available) (s : ServerState) (rest : List Owed) →
    slice_get p.state.servers host ≡ Some (owing (a ∷ left) s) → p.owed ≡ owed_shuts host (a ∷ left) ++ rest → p.moment ≡ moment →
    StandsAt client p (record { at = moment; what = fact.ConnShut host a.conn PoolClosed })
StandsAt-conn_shut client p moment host a left s rest there owes at = record {
  time = subst (λ o. InTime o p.moment moment) (sym owes) (sym at);
  turn = subst (λ o. InTurn o (fact.ConnShut host a.conn PoolClosed)) (sym owes) refl;
  going = goes_on-shut host a.conn p.state.is_ending;
  rule = (owing (a ∷ left) s, there, refl);
  command = tt;
}

pub shutting-one : (moment host : ℕ) (all left : List Available) (a : Available) (s : ServerState) (old between new : Recorded) (e : Entry) →
    AreShutting moment host all (a ∷ left) s old between → Adds an_entry between.lists moment e (fact.ConnShut host a.conn PoolClosed) between new →
    AreShutting moment host all left s old new
shutting-one moment host all left a s old between new e h adds =
    let w = between.point.state in
    let entry : PoolEntry = pool.ConnShut a.conn PoolClosed in
    let state : new.point.state ≡ record w { servers = slice_set w.servers host (owing left s) } =
    ap (λ (p : Point). p.state) adds.point_now
    ∙ ap (λ (ss : List ServerState). record w { servers = ss }) (changed-there w.servers host (with_pool moment entry) (owing (a ∷ left) s) h.here) in
    let before : w.servers ≡ slice_set old.point.state.servers host (owing (a ∷ left) s) = ap (λ (v : ClientState). v.servers) h.moves.state in
    let twice : slice_set w.servers host (owing left s) ≡ slice_set old.point.state.servers host (owing left s) =
    ap (λ ss. slice_set ss host (owing left s)) before ∙ set-set old.point.state.servers host (owing (a ∷ left) s) (owing left s) in
    let steps : length new.steps ≡ length between.steps + 1 = ap length adds.steps_now ∙ length-with_entry between.steps moment e in
    let ahead = h.steps in
    let used = adds.room_used.steps in
    let room = h.room in
    record {
      moves = record {
        client = adds.same_client ∙ h.moves.client;
        events = ap (λ (l : Lists). l.events) adds.lists_now ∙ h.moves.events;
        requests = ap (λ (l : Lists). l.requests) adds.lists_now ∙ h.moves.requests;
        state =
            state
            ∙ ap (λ (v : ClientState). record v { servers = slice_set w.servers host (owing left s) }) h.moves.state
            ∙ ap (λ (ss : List ServerState). record old.point.state { servers = ss }) twice;
        time = ap (λ (p : Point). p.time) adds.point_now ∙ h.moves.time;
      };
      here = ap (λ (v : ClientState). slice_get v.servers host) state ∙ slice_get-set_same w.servers host (owing left s) (owing (a ∷ left) s) h.here;
      next = λ rest o.
          ap (λ (p : Point). p.owed) adds.point_now ∙ ap (drop 1) (h.next rest o);
      at = ap (λ (p : Point). p.moment) adds.point_now;
      lists = adds.lists_now ∙ h.lists;
      steps = omega (arith, steps, ahead);
      room = omega (arith, used, room);
    }

-- the next one may stand
pub StandsAt-next : (moment host place : ℕ) (all : List Available) (a : Available) (s : ServerState) (rest : List Owed) (old new : Recorded) →
    AreShutting moment host all (drop place all) s old new → drop place all ≡ a ∷ drop (place + 1) all → old.point.owed ≡ owed_shuts host all ++ rest →
    StandsAt new.client new.point (record { at = moment; what = fact.ConnShut host a.conn PoolClosed })
StandsAt-next moment host place all a s rest old new h more owes =
    StandsAt-conn_shut new.client new.point moment host a (drop (place + 1) all) s rest
    (subst (λ xs. slice_get new.point.state.servers host ≡ Some (owing xs s)) more h.here)
    (subst (λ xs. new.point.owed ≡ owed_shuts host xs ++ rest) more (h.next rest owes)) h.at

pub room-next : (moment host place : ℕ) (all : List Available) (a : Available) (s : ServerState) (old new : Recorded) → AreShutting moment host all (drop place all) s old new →
    drop place all ≡ a ∷ drop (place + 1) all → length all ≤ old.room.steps → 1 ≤ new.room.steps
room-next moment host place all a s old new h more space =
    let left : length (drop place all) ≡ suc (length (drop (place + 1) all)) = ap length more in
    let room = h.room in
    omega (arith, left, room, space)

pub shutting-next : (moment host place : ℕ) (all : List Available) (a : Available) (s : ServerState) (old between new : Recorded) (e : Entry) →
    AreShutting moment host all (drop place all) s old between → drop place all ≡ a ∷ drop (place + 1) all →
    Adds an_entry between.lists moment e (fact.ConnShut host a.conn PoolClosed) between new → AreShutting moment host all (drop (place + 1) all) s old new
shutting-next moment host place all a s old between new e h more adds =
    shutting-one moment host all (drop (place + 1) all) a s old between new e (subst (λ xs. AreShutting moment host all xs s old between) more h) adds

-- all of them were
pub Shuts-all : (moment host : ℕ) (all : List Available) (s : ServerState) (old new : Recorded) → AreShutting moment host all [] s old new → Shuts moment host all s old new
Shuts-all moment host all s old new h =
    let steps = h.steps in
    let room = h.room in
    record {
      moves = h.moves;
      next = h.next;
      at = h.at;
      lists = h.lists;
      steps = omega (arith, steps);
      room = omega (arith, room);
    }

pub Shuts-end : (moment host place : ℕ) (all : List Available) (s : ServerState) (old new : Recorded) → AreShutting moment host all (drop place all) s old new →
    length all ≤ place → Shuts moment host all s old new
Shuts-end moment host place all s old new h past = Shuts-all moment host all s old new (subst (λ xs. AreShutting moment host all xs s old new) (drop-past place all past) h)
  where
    drop-past : (n : ℕ) (xs : List Available) → length xs ≤ n → drop n xs ≡ []
    drop-past zero [] l = refl
    drop-past zero (x ∷ xs) l = absurd (omega arith)
    drop-past (suc n) [] l = refl
    drop-past (suc n) (x ∷ xs) l = drop-past n xs (omega arith)

-- ---- A pool is closed

abbrev pub shut : ℕ → ℕ → Timed fact.Fact
shut host moment = record { at = moment; what = fact.PoolShut host }

goes_on-pool_shut : (host : ℕ) (b : Bool) → MayGoOn b (fact.PoolShut host)
goes_on-pool_shut host true = tt
goes_on-pool_shut host false = tt

comes_next-shut : (moment : ℕ) (s : ServerState) (owed : List PoolEntry) → owed ≡ [] → is_closed s.pool.state.state ≡ false →
    judge.ComesNext owed pool.Shut (is_closed s.pool.state.state ≡ false)
comes_next-shut moment s owed e is_open = rw e is_open

in_time : (owed : List Owed) (ahead moment : ℕ) → owed ≡ [] → ahead ≤ moment → InTime owed ahead moment
in_time owed ahead moment e h = rw e h

in_turn : (owed : List Owed) (host : ℕ) → owed ≡ [] → InTurn owed (fact.PoolShut host)
in_turn owed host e = rw e (tt)

pub StandsAt-shut : (client : Client) (p : Point) (host moment : ℕ) (s : ServerState) → slice_get p.state.servers host ≡ Some s → s.pool.owed ≡ [] →
    is_closed s.pool.state.state ≡ false → p.owed ≡ [] → p.moment ≤ moment → StandsAt client p (record { at = moment; what = fact.PoolShut host })
StandsAt-shut client p host moment s there idle is_open paid time = record {
  time = in_time p.owed p.moment moment paid time;
  turn = in_turn p.owed host paid;
  going = goes_on-pool_shut host p.state.is_ending;
  rule = (s, there, comes_next-shut moment s s.pool.owed idle is_open);
  command = tt;
}

-- the server behind it: its pool owes that each available connection is shut
pub with_pool-shut : (moment : ℕ) (s : ServerState) → s.pool.owed ≡ [] → with_pool moment pool.Shut s ≡ owing s.pool.state.available (behind_group moment pool.Shut s)
with_pool-shut moment s idle =
    ap (λ o. let t : ServerState = record s { pool = judge.place_by pool_judge s.pool.state o (record { at = moment; what = pool.Shut }) } in t) idle

map-shuts : (host : ℕ) (conns : List Available) → map (λ (e : PoolEntry). owed.OfPool host) (pool_shuts conns) ≡ owed_shuts host conns
map-shuts host [] = refl
map-shuts host (a ∷ conns) = ap (λ os. owed.OfPool host ∷ os) (map-shuts host conns)

-- what it owes
pub pool_owes-shut : (w : ClientState) (host : ℕ) (s : ServerState) → slice_get w.servers host ≡ Some s → s.pool.owed ≡ [] →
    pool_owes w (Some (host, pool.Shut)) ≡ owed_shuts host s.pool.state.available
pool_owes-shut w host s there paid = ap (λ o. owed_of host o pool.Shut) there ∙ rw paid (map-shuts host s.pool.state.available)

-- ---- The pool of a server that stands is closed at the client's end

pub owed-shut : (client : Client) (p : Point) (host moment : ℕ) (s : ServerState) → slice_get p.state.servers host ≡ Some s → s.pool.owed ≡ [] → p.owed ≡ [] →
    (point_after client p (shut host moment)).owed ≡ owed_shuts host s.pool.state.available ++ []
owed-shut client p host moment s there idle paid =
    ap (λ os. pool_owes p.state (Some (host, pool.Shut)) ++ drop 1 os) paid ∙ ap (λ os. os ++ []) (pool_owes-shut p.state host s there idle)

ends_by-servers : (b : Bool) (v : ClientState) → (if b then record v { is_ending = true } else v).servers ≡ v.servers
ends_by-servers true v = refl
ends_by-servers false v = refl

-- the servers behind it
pub servers-shut : (client : Client) (p : Point) (host moment : ℕ) (s : ServerState) → slice_get p.state.servers host ≡ Some s → s.pool.owed ≡ [] →
    (point_after client p (shut host moment)).state.servers ≡ slice_set p.state.servers host (owing s.pool.state.available (behind_group moment pool.Shut s))
servers-shut client p host moment s there idle =
    ends_by-servers (stays_at (slice_get p.state.servers host)) (pool_after p.state moment (fact.PoolShut host))
    ∙ changed-there p.state.servers host (with_pool moment pool.Shut) s there ∙ ap (slice_set p.state.servers host) (with_pool-shut moment s idle)

-- the server, once its connections are shut too
pub there-shut : (client : Client) (p : Point) (host moment : ℕ) (s : ServerState) → slice_get p.state.servers host ≡ Some s → s.pool.owed ≡ [] →
    slice_get (point_after client p (shut host moment)).state.servers host ≡ Some (owing s.pool.state.available (behind_group moment pool.Shut s))
there-shut client p host moment s there idle =
    ap (λ ss. slice_get ss host) (servers-shut client p host moment s there idle)
    ∙ slice_get-set_same p.state.servers host (owing s.pool.state.available (behind_group moment pool.Shut s)) s there

pub others-set : (ss : List ServerState) (host x : ℕ) (t : ServerState) → (x ≡ host → ⊥) → slice_get (slice_set ss host t) x ≡ slice_get ss x
others-set ss host x t h = slice_get-set_other ss host x t (λ e. h (sym e))

-- ---- All pools

pub at-or-below : (x n : ℕ) → x < n + 1 → (x ≡ n) ⊎ (x < n)
at-or-below x n h = elim (cases_lt x n) [ inl l ↦ inr l | inr m ↦ inl (omega arith) ]

closings-drop_suc : (ss : List ServerState) (k : ℕ) (s : ServerState) → slice_get ss k ≡ Some s → closings (drop k ss) ≡ closing_of s + closings (drop (suc k) ss)
closings-drop_suc [] k s there = absurd (cc)
closings-drop_suc (z ∷ zs) zero s there = let is : z ≡ s = (cc) in ap (λ u. closing_of u + closings zs) is
closings-drop_suc (z ∷ zs) (suc k) s there = closings-drop_suc zs k s there

pub closings-drop : (ss : List ServerState) (k : ℕ) (s : ServerState) → slice_get ss k ≡ Some s → closings (drop k ss) ≡ closing_of s + closings (drop (k + 1) ss)
closings-drop ss k s there = let e : suc k ≡ k + 1 = omega arith in closings-drop_suc ss k s there ∙ ap (λ n. closing_of s + closings (drop n ss)) e
