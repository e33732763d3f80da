-- A connection comes back: what its entries do, and how many more closing its pool takes.
use Rattle.std.proofs.Common.{◌≡◌, ◌≤◌, ◌==◌, ◌&&◌, ℕ, zero, suc, ◌+◌, Bool, true, false, not, if◌then◌else◌, List, [], ◌∷◌, length, Option, None, Some, refl, sym, ap, ◌∙◌, subst, arith}
use Rattle.std.specs.Option.{option_and_then, option_map}
use Rattle.std.specs.Prelude.{slice_get, slice_set}
use Rattle.std.proofs.lemmas.Bool.{eq-eqb}
use Rattle.std.proofs.lemmas.List.{length-append}
use Rattle.std.proofs.lemmas.List.Filters.{length-filter_both}
use Rattle.entry_judge.specs.Groups.{place_by}
use Rattle.pool_book.specs.declared.answers.CloseReason.{CloseReason}
use Rattle.pool_book.specs.declared.answers.Fate.{Fate}
use Rattle.pool_book.specs.declared.answers.Fate.TheVariants as fate
use Rattle.pool_book.specs.declared.connections.Available.{Available}
use Rattle.pool_book.specs.declared.connections.Held.{Held}
use Rattle.pool_book.specs.Entries as pool
use Rattle.pool_book.specs.Entries.{PoolEntry, returned}
use Rattle.pool_book.specs.Judge.{pool_judge}
use Rattle.pool_book.specs.Pool.{Pool, held_of, is_kept, without_available}
use Rattle.desk_trail.specs.declared.entry.Entry.TheVariants as entry_of
use Rattle.desk_trail.specs.Facts.{Lists}
use Rattle.desk_trail.specs.Facts as fact
use Rattle.desk_trail.specs.Legal.{Point}
use Rattle.desk_trail.specs.Pools.{OfHost, at_host, pool_step, pools_after, ticket_having, with_pool}
use Rattle.desk_trail.specs.States.{ClientState, CommandState, Has, Nothing, ServerState, changed}
use Rattle.desk_trail.specs.Written.{an_entry}
use Rattle.bson_doc.specs.declared.cluster_time.ClusterTime.{ClusterTime}
use Rattle.topo_rules.specs.declared.topology.Topology.{Topology}
use Rattle.wired_trail.specs.Lines.{Lines as WireLines}
use Rattle.legal_trail.specs.Recorded.{Adds, Recorded}
use Rattle.cmd_step.specs.CheckIns.{ComesBack, HasLent}
use Rattle.cmd_step.specs.Places.{AreAt, with_both}
use Rattle.cmd_step.specs.declared.checking_in.Back.{Back}
use Rattle.cmd_step.specs.declared.place.At.{At}
use Rattle.desk_core.specs.Appends.{AppendsOf, IsOfOp}
use Rattle.desk_core.specs.Commands.{MovesOne}
use Rattle.desk_core.specs.CheckLines.{KeepsCheckLines}
use Rattle.desk_core.specs.Kept.{IsKept}
use Rattle.desk_core.specs.Servers.{closing_of, closings}
use Rattle.desk_core.proofs.AppendsLemmas.{Plain-aside, Plain-own, grown-trans}
use Rattle.desk_core.proofs.BesideLemmas.{GoesBeside, GoesBeside-entry, GoesBeside-trans, IsKept-beside, grown-entry}
use Rattle.desk_core.proofs.PoolLemmas.{servers-led}
use Rattle.desk_core.proofs.ServerLemmas.{at_place, closings-set, elsewhere, slice_get-set, slice_get-set_same}
use Rattle.desk_core.proofs.ShutLemmas.{changed-there}

-- ---- How many are available

returned-few : (p : Pool) (moment : ℕ) (errored : Bool) (o : Option Held) → length (returned p moment errored o) ≤ 1
returned-few p moment errored None = omega arith
returned-few p moment errored (Some h) =
    elim (is_kept p errored h) as (λ b. length (if b then (let a : Available = record { conn = h.conn; generation = h.generation; since = moment } in a) ∷ [] else []) ≤ 1) [
      | true ↦ omega arith
      | false ↦ omega arith
    ]

without-fewer : (conn : ℕ) (xs : List Available) → length (without_available conn xs) ≤ length xs
without-fewer conn xs =
    let both = length-filter_both (λ (a : Available). a.conn == conn) (λ (a : Available). not (a.conn == conn)) (λ _. refl) xs in
    omega (arith, both)

-- behind a check-in, and behind the end of a connection
checked-available : (moment ticket conn : ℕ) (errored : Bool) (p : Pool) (os : List PoolEntry) →
    length (place_by pool_judge p os (record { at = moment; what = pool.CheckedIn ticket conn errored })).state.available ≤ length p.available + 1
checked-available moment ticket conn errored p [] =
    let few = returned-few p moment errored (held_of conn p.lent) in
    rw (length-append p.available (returned p moment errored (held_of conn p.lent))) (omega arith)
checked-available moment ticket conn errored p (o ∷ os) = omega arith

shut-available : (moment conn : ℕ) (reason : CloseReason) (p : Pool) (os : List PoolEntry) →
    length (place_by pool_judge p os (record { at = moment; what = pool.ConnShut conn reason })).state.available ≤ length p.available
shut-available moment conn reason p [] = without-fewer conn p.available
shut-available moment conn reason p (o ∷ os) = omega arith

closing_of-more : (s t : ServerState) → t.has_left ≡ s.has_left → length t.pool.state.available ≤ length s.pool.state.available + 1 → closing_of t ≤ closing_of s + 1
closing_of-more s t left few =
    subst (λ (b : Bool). (if b then 0 else length t.pool.state.available + 1) ≤ closing_of s + 1) (sym left)
    (elim s.has_left as (λ b. (if b then 0 else length t.pool.state.available + 1) ≤ (if b then 0 else length s.pool.state.available + 1) + 1) [
      | true ↦ omega arith
      | false ↦ omega arith
    ])

-- ---- Where its server is behind it

ticketed : (host ticket conn : ℕ) → ticket_having host conn (Has host ticket conn) ≡ Some ticket
ticketed host ticket conn =
    ap (λ (b : Bool). if b && conn == conn then Some ticket else None) (eq-eqb host host refl) ∙ ap (λ (b : Bool). if b then Some ticket else None) (eq-eqb conn conn refl)

step : (w : ClientState) (at : At) (back : Back) (s : ServerState) (c : CommandState) (l : HasLent at back s c) → slice_get w.commands at.op ≡ Some c →
    pool_step w (fact.CheckedIn at.op at.host back.conn back.errored) ≡ Some (at.host, pool.CheckedIn l.held.ticket back.conn back.errored)
step w at back s c l there =
    ap (λ (o : Option CommandState). at_host at.host (option_map (λ t. pool.CheckedIn t back.conn back.errored) (option_and_then (ticket_having at.host back.conn)
    (option_map (λ (d : CommandState). d.check_out) o)))) there
    ∙ ap (λ k. at_host at.host (option_map (λ t. pool.CheckedIn t back.conn back.errored) (ticket_having at.host back.conn k))) l.has
    ∙ ap (λ o. at_host at.host (option_map (λ t. pool.CheckedIn t back.conn back.errored) o)) (ticketed at.host l.held.ticket back.conn)

-- of the server of a connection that comes back
pub record IsNearly (s t : ServerState) : Type 0 where
  pub left : t.has_left ≡ s.has_left
  pub few : length t.pool.state.available ≤ length s.pool.state.available + 1

-- the command is with no pool any more
abbrev pub left_pool : CommandState → CommandState
left_pool c = record c { check_out = Nothing }

command-checked : (old new : Recorded) (at : At) (back : Back) (s : ServerState) (c : CommandState) → HasLent at back s c → AreAt old.point.state at s c →
    Adds an_entry old.lists at.moment (entry_of.CheckedIn at.op at.host back.conn back.errored) (fact.CheckedIn at.op at.host back.conn back.errored) old new →
    slice_get new.point.state.commands at.op ≡ Some (left_pool c)
command-checked old new at back s c l places adds =
    let w = old.point.state in
    ap (λ (p : Point). slice_get p.state.commands at.op) adds.point_now
    ∙ ap (λ (o : Option OfHost). slice_get (changed (pools_after w at.moment o).commands at.op left_pool) at.op) (step w at back s c l places.command)
    ∙ ap (λ (cs : List CommandState). slice_get cs at.op) (changed-there w.commands at.op left_pool c places.command)
    ∙ slice_get-set_same w.commands at.op (left_pool c) c places.command

there-checked : (old new : Recorded) (at : At) (back : Back) (s : ServerState) (c : CommandState) → HasLent at back s c → AreAt old.point.state at s c →
    Adds an_entry old.lists at.moment (entry_of.CheckedIn at.op at.host back.conn back.errored) (fact.CheckedIn at.op at.host back.conn back.errored) old new →
    (t : ServerState) × (slice_get new.point.state.servers at.host ≡ Some t) × IsNearly s t
there-checked old new at back s c l places adds =
    let w = old.point.state in
    let e : PoolEntry = pool.CheckedIn l.held.ticket back.conn back.errored in
    let servers : new.point.state.servers ≡ slice_set w.servers at.host (with_pool at.moment e s) =
    ap (λ (p : Point). p.state.servers) adds.point_now
    ∙ ap (λ (o : Option OfHost). (pools_after w at.moment o).servers) (step w at back s c l places.command)
    ∙ changed-there w.servers at.host (with_pool at.moment e) s places.server in (
      with_pool at.moment e s,
      ap (λ (ss : List ServerState). slice_get ss at.host) servers ∙ slice_get-set_same w.servers at.host (with_pool at.moment e s) s places.server,
      record { left = refl; few = checked-available at.moment l.held.ticket back.conn back.errored s.pool.state s.pool.owed },
    )

there-shut : (old new : Recorded) (host conn moment : ℕ) (reason : CloseReason) (s u : ServerState) → slice_get old.point.state.servers host ≡ Some u → IsNearly s u →
    Adds an_entry old.lists moment (entry_of.ConnShut host conn reason) (fact.ConnShut host conn reason) old new →
    (t : ServerState) × (slice_get new.point.state.servers host ≡ Some t) × IsNearly s t
there-shut old new host conn moment reason s u there near adds =
    let w = old.point.state in
    let e : PoolEntry = pool.ConnShut conn reason in
    let servers : new.point.state.servers ≡ slice_set w.servers host (with_pool moment e u) =
    ap (λ (p : Point). p.state.servers) adds.point_now ∙ changed-there w.servers host (with_pool moment e) u there in
    let fewer = shut-available moment conn reason u.pool.state u.pool.owed in
    let few = near.few in (
      with_pool moment e u,
      ap (λ (ss : List ServerState). slice_get ss host) servers ∙ slice_get-set_same w.servers host (with_pool moment e u) u there,
      record { left = near.left; few = omega arith },
    )

-- ---- It comes back

-- what its entries do, beside what the server and the command are
pub record IsReturned (at : At) (old new : Recorded) (s t : ServerState) (c d : CommandState) : Type 0 where
  pub entries : ℕ
  pub some_few : entries ≤ 2
  pub used : old.room.steps ≡ new.room.steps + entries
  pub closing : closing_of t ≤ closing_of s + 1
  pub state : new.point.state ≡ with_both old.point.state at t d
  pub paid : new.point.owed ≡ []
  pub now : new.point.moment ≡ at.moment
  pub time : new.point.time ≡ old.point.time
  pub lists : new.lists ≡ old.lists
  pub beside : GoesBeside entries old new
  pub command : d ≡ left_pool c

same-there : (w v : ClientState) (at : At) (s t : ServerState) (c d : CommandState) (u : ServerState) → AreAt w at s c → v ≡ with_both w at t d →
    slice_get v.servers at.host ≡ Some u → u ≡ t
same-there w v at s t c d u places state there =
    let both : Some u ≡ Some t =
    sym there ∙ ap (λ (x : ClientState). slice_get x.servers at.host) state ∙ slice_get-set_same w.servers at.host t s places.server in
    (cc)

same-command : (w v : ClientState) (at : At) (s t : ServerState) (c d : CommandState) → AreAt w at s c → v ≡ with_both w at t d →
    slice_get v.commands at.op ≡ Some (left_pool c) → d ≡ left_pool c
same-command w v at s t c d places state there =
    let both : Some d ≡ Some (left_pool c) =
    sym (ap (λ (x : ClientState). slice_get x.commands at.op) state ∙ slice_get-set_same w.commands at.op d c places.command) ∙ there in
    (cc)

closing-near : (s u t : ServerState) → IsNearly s u → u ≡ t → closing_of t ≤ closing_of s + 1
closing-near s u t near same = subst (λ (x : ServerState). closing_of x ≤ closing_of s + 1) same (closing_of-more s u near.left near.few)

pub IsReturned-by : (at : At) (back : Back) (f : Fate) (old new : Recorded) (s t : ServerState) (c d : CommandState) → HasLent at back s c → AreAt old.point.state at s c →
    ComesBack at back f old new t d → IsReturned at old new s t c d
IsReturned-by at back fate.Kept old new s t c d l places h =
    let u = there-checked old new at back s c l places h.adds in
    record {
      entries = 1;
      some_few = omega arith;
      used = h.adds.room_used.steps;
      closing = closing-near s u.0 t u.2 (same-there old.point.state new.point.state at s t c d u.0 places h.moved u.1);
      state = h.moved;
      paid = h.paid;
      now = ap (λ (p : Point). p.moment) h.adds.point_now;
      time = ap (λ (p : Point). p.time) h.adds.point_now;
      lists = h.adds.lists_now;
      beside =
          GoesBeside-entry an_entry at.moment (entry_of.CheckedIn at.op at.host back.conn back.errored) (fact.CheckedIn at.op at.host back.conn back.errored) old new tt refl h.adds;
      command = same-command old.point.state new.point.state at s t c d places h.moved (command-checked old new at back s c l places h.adds);
    }
IsReturned-by at back (fate.Shut reason) old new s t c d l places h =
    let mid : Recorded = h.mid in
    let v = there-checked old mid at back s c l places h.adds in
    let u = there-shut mid new at.host back.conn at.moment reason s v.0 v.1 v.2 h.shuts in
    let first : old.room.steps ≡ mid.room.steps + 1 = h.adds.room_used.steps in
    let second : mid.room.steps ≡ new.room.steps + 1 = h.shuts.room_used.steps in
    record {
      entries = 2;
      some_few = omega arith;
      used = omega arith;
      closing = closing-near s u.0 t u.2 (same-there old.point.state new.point.state at s t c d u.0 places h.moved u.1);
      state = h.moved;
      paid = h.paid;
      now = ap (λ (p : Point). p.moment) h.shuts.point_now;
      time = ap (λ (p : Point). p.time) h.shuts.point_now ∙ ap (λ (p : Point). p.time) h.adds.point_now;
      lists = h.shuts.lists_now ∙ h.adds.lists_now;
      beside =
          GoesBeside-trans 1 1 old mid new
          (GoesBeside-entry an_entry at.moment (entry_of.CheckedIn at.op at.host back.conn back.errored) (fact.CheckedIn at.op at.host back.conn back.errored) old mid tt refl h.adds)
          (GoesBeside-entry an_entry at.moment (entry_of.ConnShut at.host back.conn reason) (fact.ConnShut at.host back.conn reason) mid new tt refl h.shuts);
      command =
          same-command old.point.state new.point.state at s t c d places h.moved
          (ap (λ (p : Point). slice_get p.state.commands at.op) h.shuts.point_now ∙ command-checked old mid at back s c l places h.adds);
    }

pub grown-returned : {R : Type 0} (at : At) (back : Back) (f : Fate) (old new : Recorded) (t : ServerState) (d : CommandState) → ComesBack at back f old new t d →
    AppendsOf R (IsOfOp at.op) at.moment old new
grown-returned {R} at back fate.Kept old new t d h =
    grown-entry an_entry at.moment (entry_of.CheckedIn at.op at.host back.conn back.errored) (fact.CheckedIn at.op at.host back.conn back.errored) old new h.adds (λ e. absurd (cc))
    (Plain-own at.op (fact.CheckedIn at.op at.host back.conn back.errored) (λ o e. e) (λ x y. tt) (λ own. tt))
grown-returned {R} at back (fate.Shut reason) old new t d h =
    let mid : Recorded = h.mid in
    grown-trans at.moment old mid new
    (grown-entry an_entry at.moment (entry_of.CheckedIn at.op at.host back.conn back.errored) (fact.CheckedIn at.op at.host back.conn back.errored) old mid h.adds
    (λ e. absurd (cc)) (Plain-own at.op (fact.CheckedIn at.op at.host back.conn back.errored) (λ o e. e) (λ x y. tt) (λ own. tt)))
    (grown-entry an_entry at.moment (entry_of.ConnShut at.host back.conn reason) (fact.ConnShut at.host back.conn reason) mid new h.shuts (λ e. absurd (cc))
    (Plain-aside at.op (fact.ConnShut at.host back.conn reason) (λ o. refl)))

pub MovesOne-returned : (at : At) (old new : Recorded) (s t : ServerState) (c d : CommandState) → IsReturned at old new s t c d → MovesOne at.op d old new
MovesOne-returned at old new s t c d h = record {
  commands = ap (λ (w : ClientState). w.commands) h.state;
  sessions = ap (λ (w : ClientState). w.sessions) h.state;
  ids = ap (λ (l : Lists). l.sessions) h.lists;
}

-- ---- What is kept

-- closing one of the pools takes no more than closing all
pub closing-within : (ss : List ServerState) (k : ℕ) (s : ServerState) → slice_get ss k ≡ Some s → closing_of s ≤ closings ss
closing-within [] k s h = absurd (cc)
closing-within (z ∷ zs) zero s h = let is : closing_of z ≡ closing_of s = let same : z ≡ s = (cc) in ap closing_of same in omega arith
closing-within (z ∷ zs) (suc k) s h = let i = closing-within zs k s h in omega arith

-- of servers of which one is put in, that one and the others owe nothing
paid-set : (ss : List ServerState) (k : ℕ) (t : ServerState) → t.pool.owed ≡ [] → ((x : ℕ) (u : ServerState) → slice_get ss x ≡ Some u → u.pool.owed ≡ []) →
    (x : ℕ) (u : ServerState) → slice_get (slice_set ss k t) x ≡ Some u → u.pool.owed ≡ []
paid-set ss k t paid others = λ x u there. elim (slice_get-set ss k t x u there) [
  | at_place i is ↦ ap (λ (v : ServerState). v.pool.owed) is ∙ paid
  | elsewhere i is ↦ others x u is
]

pub IsKept-returned : (at : At) (old new : Recorded) (before lines : WireLines) (topology : Topology) (ss : List ServerState) (time : Option ClusterTime) (count counted last : ℕ)
    (stopped : Bool) (s t : ServerState) (c d : CommandState) → IsKept old before topology ss time count last stopped → stopped ≡ false → IsReturned at old new s t c d →
    slice_get ss at.host ≡ Some s → t.pool.owed ≡ [] → last ≡ at.moment → counted + closing_of s ≡ count + closing_of t → count + 3 ≤ old.room.steps →
    KeepsCheckLines before lines → IsKept new lines topology (slice_set ss at.host t) time counted last stopped
IsKept-returned at old new before lines topology ss time count counted last stopped s t c d k runs h there paid now counts space keeps =
    let l = k.leads runs in
    let set = closings-set ss at.host s t there in
    let was = k.counted in
    let few = h.some_few in
    let used = h.used in
    let more = h.closing in
    let moment = h.now in
    IsKept-beside h.entries old new before lines topology ss (slice_set ss at.host t) time time count counted last stopped k runs h.beside
    (ap (λ (w : ClientState). w.servers) h.state ∙ ap (λ (zs : List ServerState). slice_set zs at.host t) (servers-led old before topology ss time last l))
    (h.time ∙ l.greatest) (omega arith) (omega arith) (omega arith)
    (paid-set ss at.host t paid (λ x u e. (l.kept x u e).paid)) keeps
