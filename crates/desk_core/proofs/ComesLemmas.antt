-- Entries of a command, one behind another: what they append, what the servers are behind them, and what a desk keeps.
use Rattle.std.proofs.Common.{◌≡◌, ◌≤◌, ◌^◌, ℕ, zero, suc, ◌+◌, Bool, true, false, List, [], ◌∷◌, ◌++◌, length, get_or, Option, None, Some, refl, sym, ap, ◌∙◌, subst, arith}
use Rattle.std.specs.Prelude.{slice_get, slice_set}
use Rattle.std.proofs.lemmas.Option.{slice_get_read, slice_get_within}
use Rattle.std.specs.Option.{option_map}
use Rattle.bson_doc.specs.declared.cluster_time.ClusterTime.{ClusterTime}
use Rattle.topo_rules.specs.declared.topology.Topology.{Topology}
use Rattle.pool_book.specs.declared.answers.CloseReason.{CloseReason}
use Rattle.write_retry.specs.declared.attempt_end.AttemptEnd.TheVariants as attempt
use Rattle.write_retry.specs.declared.events.Unsent.{Unsent}
use Rattle.desk_trail.specs.declared.entry.Entry.{Entry}
use Rattle.desk_trail.specs.declared.entry.Entry.TheVariants as entry
use Rattle.desk_trail.specs.declared.request.Purpose.TheVariants as purpose
use Rattle.desk_trail.specs.declared.request.Request.{Request}
use Rattle.desk_trail.specs.declared.room.Room.{Room}
use Rattle.desk_trail.specs.Clients.{Client}
use Rattle.desk_trail.specs.Facts.{Fact, Lists}
use Rattle.desk_trail.specs.Facts as fact
use Rattle.desk_trail.specs.Orders.{asks_for}
use Rattle.desk_trail.specs.Legal.{Point, client_after}
use Rattle.desk_trail.specs.Pools.{waits_now}
use Rattle.desk_trail.specs.States.{ClientState, CommandState, ServerState, changed, changed_at}
use Rattle.desk_trail.specs.Written.{a_request, an_entry}
use Rattle.legal_trail.specs.Recorded.{Adds, Recorded}
use Rattle.wired_trail.specs.Faults.{tells_fault}
use Rattle.wired_trail.specs.Lines.{Lines as WireLines}
use Rattle.wired_trail.specs.Standing.{Standing}
use Rattle.cmd_step.specs.Free.{IsFree}
use Rattle.cmd_step.specs.Places.{AreAt, with_both}
use Rattle.cmd_step.specs.Sweeps as sweeping
use Rattle.cmd_step.specs.Sweeps.{IsSweeping, Shuts, with_one}
use Rattle.cmd_step.specs.declared.place.At.{At}
use Rattle.desk_core.specs.Appends.{AppendsAside, AppendsOf, IsOfOp, NamesNone}
use Rattle.desk_core.specs.CheckLines.{KeepsCheckLines}
use Rattle.desk_core.specs.CheckOuts.{KeepsAddress}
use Rattle.desk_core.specs.Commands.{IsAtWork, MovesOne}
use Rattle.desk_core.specs.Kept.{IsKept, IsReady, LeadsTo}
use Rattle.desk_core.specs.Servers.{closing_of, closings}
use Rattle.desk_core.specs.State.{Core}
use Rattle.desk_core.proofs.AppendsLemmas.{Plain-aside, Plain-own, grown-same, grown-trans}
use Rattle.desk_core.proofs.BesideLemmas.{GoesBeside, GoesBeside-asked, GoesBeside-entry, GoesBeside-none, GoesBeside-trans, IsBeside, IsKept-beside, IsOfCommand, asks, grown-asked, grown-entry}
use Rattle.desk_core.proofs.ClosingLemmas.{ClosesNoMore, fewer-dialled, fewer-ended, fewer-entered, fewer-greeting, fewer-lent, fewer-not_lent, fewer-same, fewer-settled, fewer-shut, fewer-time, fewer-trans}
use Rattle.desk_core.proofs.ServerLemmas.{at_place, closings-set, elsewhere, slice_get-set, slice_get-set_same}

-- ---- So many entries came

-- by which closing the pools takes no more
pub record Comes (failed : Type 0) (says : Fact → Type 0) (n moment : ℕ) (old new : Recorded) : Type 0 where
  pub goes : GoesBeside n old new
  pub fewer : ClosesNoMore old new
  pub appends : AppendsOf failed says moment old new
  pub ids : new.lists.sessions ≡ old.lists.sessions
  pub space : old.room.steps ≤ new.room.steps + n
  pub at : old.point.moment ≤ moment → new.point.moment ≤ moment

pub Comes-trans : {R : Type 0} {P : Fact → Type 0} (m n moment : ℕ) (old between new : Recorded) → Comes R P m moment old between → Comes R P n moment between new → Comes R P (m + n) moment old new
Comes-trans {R} {P} m n moment old between new a b = record {
  goes = GoesBeside-trans m n old between new a.goes b.goes;
  fewer = fewer-trans old between new a.fewer b.fewer;
  appends = grown-trans moment old between new a.appends b.appends;
  ids = b.ids ∙ a.ids;
  space = let x = a.space in let y = b.space in omega arith;
  at = λ h. b.at (a.at h);
}

pub Comes-none : {R : Type 0} {P : Fact → Type 0} (moment : ℕ) (old new : Recorded) → new ≡ old → Comes R P 0 moment old new
Comes-none {R} {P} moment old new e = record {
  goes = GoesBeside-none old new old.room e;
  fewer = fewer-same old new (ap (λ (r : Recorded). r.point.state.servers) e);
  appends = grown-same moment old new (ap (λ (r : Recorded). r.client) e) (ap (λ (r : Recorded). r.lists) e) (ap (λ (r : Recorded). r.steps) e);
  ids = ap (λ (r : Recorded). r.lists.sessions) e;
  space = let k = ap (λ (r : Recorded). r.room.steps) e in omega arith;
  at = λ h. let k = ap (λ (r : Recorded). r.point.moment) e in omega arith;
}

pub Comes-entry : {R : Type 0} {P : Fact → Type 0} (moment : ℕ) (e : Entry) (f : Fact) (old new : Recorded) → IsBeside f → asks f ≡ 0 → ClosesNoMore old new →
    (tells_fault e ≡ true → R) → P f → Adds an_entry old.lists moment e f old new → Comes R P 1 moment old new
Comes-entry {R} {P} moment e f old new own none fewer quiet plain a = record {
  goes = GoesBeside-entry an_entry moment e f old new own none a;
  fewer = fewer;
  appends = grown-entry an_entry moment e f old new a quiet plain;
  ids = ap (λ (l : Lists). l.sessions) a.lists_now;
  space = let k = a.room_used.steps in omega arith;
  at = λ h. let k = ap (λ (p : Point). p.moment) a.point_now in omega arith;
}

pub Comes-entered : {R : Type 0} (moment op host ticket : ℕ) (old new : Recorded) →
    Adds an_entry old.lists moment (entry.Entered op host ticket) (fact.Entered op host ticket) old new → Comes R (IsOfOp op) 1 moment old new
Comes-entered {R} moment op host ticket old new a =
    Comes-entry moment (entry.Entered op host ticket) (fact.Entered op host ticket) old new tt refl
    (fewer-entered an_entry old.lists moment op host ticket (entry.Entered op host ticket) old new a) (λ e. absurd (cc)) (Plain-own op (fact.Entered op host ticket) (λ o e. e) (λ x y. tt) (λ own. tt)) a

pub Comes-lent : {R : Type 0} (moment op host conn : ℕ) (old new : Recorded) → Adds an_entry old.lists moment (entry.Lent op host conn) (fact.Lent op host conn) old new →
    Comes R (IsOfOp op) 1 moment old new
Comes-lent {R} moment op host conn old new a =
    Comes-entry moment (entry.Lent op host conn) (fact.Lent op host conn) old new tt refl
    (fewer-lent an_entry old.lists moment op host conn (entry.Lent op host conn) old new a) (λ e. absurd (cc)) (Plain-own op (fact.Lent op host conn) (λ o e. e) (λ x y. tt) (λ own. tt)) a

pub Comes-dialled : {R : Type 0} (moment op host conn : ℕ) (stream : Option ℕ) (old new : Recorded) → (stream ≡ None → R) →
    Adds an_entry old.lists moment (entry.Dialled op host conn stream) (fact.Dialled op host conn stream) old new → Comes R (IsOfOp op) 1 moment old new
Comes-dialled {R} moment op host conn stream old new h a =
    Comes-entry moment (entry.Dialled op host conn stream) (fact.Dialled op host conn stream) old new tt refl
    (fewer-dialled an_entry old.lists moment op host conn stream (entry.Dialled op host conn stream) old new a) (by stream h) (Plain-own op (fact.Dialled op host conn stream) (λ o e. e) (λ x y. tt) (λ own. tt)) a
  where
    by : (o : Option ℕ) → (o ≡ None → R) → tells_fault (entry.Dialled op host conn o) ≡ true → R
    by None f e = f refl
    by (Some s) f e = absurd (cc)

pub Comes-settled : {R : Type 0} (moment op host conn : ℕ) (stale : Bool) (old new : Recorded) →
    Adds an_entry old.lists moment (entry.Settled op host conn stale) (fact.Settled op host conn stale) old new → Comes R (IsOfOp op) 1 moment old new
Comes-settled {R} moment op host conn stale old new a =
    Comes-entry moment (entry.Settled op host conn stale) (fact.Settled op host conn stale) old new tt refl
    (fewer-settled an_entry old.lists moment op host conn stale (entry.Settled op host conn stale) old new a) (λ e. absurd (cc)) (Plain-own op (fact.Settled op host conn stale) (λ o e. e) (λ x y. tt) (λ own. tt)) a

pub Comes-not_lent : {R : Type 0} (moment op host : ℕ) (why : Unsent) (old new : Recorded) →
    Adds an_entry old.lists moment (entry.NotLent op host why) (fact.NotLent op host why) old new → Comes R (IsOfOp op) 1 moment old new
Comes-not_lent {R} moment op host why old new a =
    Comes-entry moment (entry.NotLent op host why) (fact.NotLent op host why) old new tt refl
    (fewer-not_lent an_entry old.lists moment op host why (entry.NotLent op host why) old new a) (λ e. absurd (cc)) (Plain-own op (fact.NotLent op host why) (λ o e. e) (λ x y. tt) (λ own. tt)) a

pub Comes-shut : {R : Type 0} {P : Fact → Type 0} (moment host conn : ℕ) (reason : CloseReason) (old new : Recorded) →
    P (fact.ConnShut host conn reason) → Adds an_entry old.lists moment (entry.ConnShut host conn reason) (fact.ConnShut host conn reason) old new → Comes R P 1 moment old new
Comes-shut {R} {P} moment host conn reason old new is a =
    Comes-entry moment (entry.ConnShut host conn reason) (fact.ConnShut host conn reason) old new tt refl
    (fewer-shut an_entry old.lists moment host conn reason (entry.ConnShut host conn reason) old new a) (λ e. absurd (cc)) is a

pub Comes-unsent : {R : Type 0} (moment op : ℕ) (why : Unsent) (old new : Recorded) →
    Adds an_entry old.lists moment (entry.Ended op (attempt.Unsent why)) (fact.Ended op (attempt.Unsent why)) old new → Comes R (IsOfOp op) 1 moment old new
Comes-unsent {R} moment op why old new a =
    Comes-entry moment (entry.Ended op (attempt.Unsent why)) (fact.Ended op (attempt.Unsent why)) old new tt refl
    (fewer-ended an_entry old.lists moment op (attempt.Unsent why) (entry.Ended op (attempt.Unsent why)) old new a) (λ e. absurd (cc)) (Plain-own op (fact.Ended op (attempt.Unsent why)) (λ o e. e) (λ x y. tt) (λ own. tt)) a

pub Comes-time : {R : Type 0} {op : ℕ} (moment stamp : ℕ) (old new : Recorded) → Adds an_entry old.lists moment (entry.Time stamp) (fact.Time stamp) old new → Comes R (IsOfOp op) 1 moment old new
Comes-time {R} {op} moment stamp old new a =
    Comes-entry moment (entry.Time stamp) (fact.Time stamp) old new tt refl (fewer-time an_entry old.lists moment stamp (entry.Time stamp) old new a) (λ e. absurd (cc)) (Plain-aside op (fact.Time stamp) (λ o. refl)) a

-- a connection's greeting is queued
pub Comes-greeting : {R : Type 0} {op : ℕ} (moment place host conn : ℕ) (r : Request) (old new : Recorded) → r.purpose ≡ purpose.Greeting host conn →
    Adds a_request (record old.lists { requests = old.lists.requests ++ r ∷ [] }) moment (entry.Asked place) (fact.Asked place r) old new → Comes R (IsOfOp op) 1 moment old new
Comes-greeting {R} {op} moment place host conn r old new for a = record {
  goes = GoesBeside-asked a_request moment place (entry.Asked place) r old new (subst IsOfCommand (sym for) tt) a;
  fewer = fewer-greeting a_request (record old.lists { requests = old.lists.requests ++ r ∷ [] }) moment place host conn r (entry.Asked place) old new for a;
  appends = grown-asked a_request moment place (entry.Asked place) r old new a (λ e. absurd (cc))
      (Plain-aside op (fact.Asked place r) (λ o. ap (asks_for o) for));
  ids = ap (λ (l : Lists). l.sessions) a.lists_now;
  space = let k = a.room_used.steps in omega arith;
  at = λ h. let k = ap (λ (p : Point). p.moment) a.point_now in omega arith;
}

-- ---- The client behind them

-- its server and its command of those numbers are these
pub record IsMoved (old new : Recorded) (at : At) (t : ServerState) (d : CommandState) : Type 0 where
  pub servers : new.point.state.servers ≡ slice_set old.point.state.servers at.host t
  pub commands : new.point.state.commands ≡ slice_set old.point.state.commands at.op d
  pub sessions : new.point.state.sessions ≡ old.point.state.sessions

pub IsMoved-both : (old new : Recorded) (at : At) (t : ServerState) (d : CommandState) → new.point.state ≡ with_both old.point.state at t d → IsMoved old new at t d
IsMoved-both old new at t d e = record {
  servers = ap (λ (w : ClientState). w.servers) e;
  commands = ap (λ (w : ClientState). w.commands) e;
  sessions = ap (λ (w : ClientState). w.sessions) e;
}

pub set-there : {A : Type 0} (xs : List A) (k : ℕ) (x : A) → slice_get xs k ≡ Some x → slice_set xs k x ≡ xs
set-there [] k x h = absurd (cc)
set-there (z ∷ zs) zero x h = let is : z ≡ x = (cc) in ap (λ y. y ∷ zs) (sym is)
set-there (z ∷ zs) (suc k) x h = ap (λ ys. z ∷ ys) (set-there zs k x h)

pub IsMoved-none : (old new : Recorded) (at : At) (t : ServerState) (d : CommandState) → new ≡ old → AreAt old.point.state at t d → IsMoved old new at t d
IsMoved-none old new at t d e places = record {
  servers = ap (λ (r : Recorded). r.point.state.servers) e ∙ sym (set-there old.point.state.servers at.host t places.server);
  commands = ap (λ (r : Recorded). r.point.state.commands) e ∙ sym (set-there old.point.state.commands at.op d places.command);
  sessions = ap (λ (r : Recorded). r.point.state.sessions) e;
}

pub MovesOne-moved : {R : Type 0} {P : Fact → Type 0} (n moment : ℕ) (old mid new : Recorded) (room : Room) (at : At) (t : ServerState) (d : CommandState) → mid ≡ record old { room = room } →
    Comes R P n moment mid new → IsMoved mid new at t d → MovesOne at.op d old new
MovesOne-moved {R} {P} n moment old mid new room at t d same h m = record {
  commands = m.commands ∙ ap (λ (r : Recorded). slice_set r.point.state.commands at.op d) same;
  sessions = m.sessions ∙ ap (λ (r : Recorded). r.point.state.sessions) same;
  ids = h.ids ∙ ap (λ (r : Recorded). r.lists.sessions) same;
}

pub Appends-comes : {R : Type 0} {P : Fact → Type 0} (n moment : ℕ) (old mid new : Recorded) (room : Room) → mid ≡ record old { room = room } → Comes R P n moment mid new → AppendsOf R P moment old new
Appends-comes {R} {P} n moment old mid new room same h =
    grown-trans moment old mid new
    (grown-same moment old mid (ap (λ (r : Recorded). r.client) same) (ap (λ (r : Recorded). r.lists) same) (ap (λ (r : Recorded). r.steps) same)) h.appends

pub KeepsAddress-comes : {R : Type 0} {P : Fact → Type 0} (n moment host : ℕ) (old mid new : Recorded) (room : Room) (t : ServerState) → mid ≡ record old { room = room } → Comes R P n moment mid new →
    new.point.state.servers ≡ slice_set mid.point.state.servers host t → KeepsAddress host old.point.state new.point.state
KeepsAddress-comes {R} {P} n moment host old mid new room t same h m = λ s there.
    let was : slice_get mid.point.state.servers host ≡ Some s = ap (λ (r : Recorded). slice_get r.point.state.servers host) same ∙ there in
    let now : slice_get new.point.state.servers host ≡ Some t = ap (λ (ss : List ServerState). slice_get ss host) m ∙ slice_get-set_same mid.point.state.servers host t s was in
    let k = h.goes.servers host t now in
    let is : k.0 ≡ s = let e : Some k.0 ≡ Some s = sym k.1 ∙ was in (cc) in
    (t, now, k.2.address ∙ ap (λ (u : ServerState). u.address) is)

-- ---- What a desk has of it

-- the server of the desk, and the command, as the client has them
pub there-by : (trail : Recorded) (lines : WireLines) (topology : Topology) (ss : List ServerState) (time : Option ClusterTime) (last host : ℕ) (s : ServerState) →
    LeadsTo trail lines topology ss time last → slice_get ss host ≡ Some s → slice_get trail.point.state.servers host ≡ Some s
there-by trail lines topology ss time last host s l there = ap (λ (w : ClientState). slice_get w.servers host) l.state ∙ there

pub IsFree-ready : {N : Type 0} (d : Core N) (trail : Recorded) (lines : WireLines) (topology : Topology) (ss : List ServerState) (time : Option ClusterTime) (last moment : ℕ) →
    IsReady d moment → d.trail.point ≡ trail.point → d.last ≡ last → LeadsTo trail lines topology ss time last → IsFree trail.point moment
IsFree-ready d trail lines topology ss time last moment ready point at l = record {
  paid = ap (λ (p : Point). p.owed) (sym point) ∙ ready.paid;
  time = let m = l.moment in let n = ready.now in omega arith;
  goes_on = ap (λ (w : ClientState). w.is_ending) l.state;
}

pub AreAt-work : {N : Type 0} (d : Core N) (moment : ℕ) (at : At) (trail mid : Recorded) (room : Room) (lines : WireLines) (topology : Topology) (ss : List ServerState)
    (time : Option ClusterTime) (last : ℕ) (s : ServerState) (c e : CommandState) → IsAtWork d moment at.op c → d.trail ≡ trail → mid ≡ record trail { room = room } →
    LeadsTo mid lines topology ss time last → slice_get ss at.host ≡ Some s → e ≡ c → AreAt mid.point.state at s e
AreAt-work d moment at trail mid room lines topology ss time last s c e work same more l there is = record {
  server = there-by mid lines topology ss time last at.host s l there;
  command = ap (λ (r : Recorded). slice_get r.point.state.commands at.op) more ∙ ap (λ (r : Recorded). slice_get r.point.state.commands at.op) (sym same) ∙ work.there
      ∙ ap (λ x. Some x) (sym is);
}

-- the command that entered a line
pub entered-command : (client : Client) (w : ClientState) (at : At) (ticket : ℕ) (t : ServerState) (c d : CommandState) → slice_get w.commands at.op ≡ Some c →
    with_both w at t d ≡ client_after client at.moment w (fact.Entered at.op at.host ticket) → d ≡ waits_now at.host ticket c
entered-command client w at ticket t c d there e =
    let f : CommandState → CommandState = waits_now at.host ticket in
    let was : Some d ≡ slice_get (slice_set w.commands at.op d) at.op = sym (slice_get-set_same w.commands at.op d c there) in
    let now : slice_get (slice_set w.commands at.op d) at.op ≡ slice_get (changed w.commands at.op f) at.op = ap (λ (v : ClientState). slice_get v.commands at.op) e in
    let by : slice_get (changed w.commands at.op f) at.op ≡ slice_get (slice_set w.commands at.op (f c)) at.op =
    ap (λ (o : Option CommandState). slice_get (changed_at w.commands at.op o f) at.op) there in
    let is : Some d ≡ Some (f c) = was ∙ now ∙ by ∙ slice_get-set_same w.commands at.op (f c) c there in
    (cc)

pub closing-within : (ss : List ServerState) (k : ℕ) (s : ServerState) → slice_get ss k ≡ Some s → closing_of s ≤ closings ss
closing-within [] k s h = absurd (cc)
closing-within (z ∷ zs) zero s h = let is : z ≡ s = (cc) in let e = ap closing_of is in omega arith
closing-within (z ∷ zs) (suc k) s h = let i = closing-within zs k s h in omega arith

pub closing-less : {R : Type 0} {P : Fact → Type 0} (n moment : ℕ) (old new : Recorded) (lines : WireLines) (topology : Topology) (ss : List ServerState) (time : Option ClusterTime) (last host : ℕ)
    (s t : ServerState) → LeadsTo old lines topology ss time last → Comes R P n moment old new → new.point.state.servers ≡ slice_set old.point.state.servers host t →
    slice_get ss host ≡ Some s → closing_of t ≤ closing_of s
closing-less {R} {P} n moment old new lines topology ss time last host s t l h m there =
    let was : old.point.state.servers ≡ ss = ap (λ (w : ClientState). w.servers) l.state in
    let now : new.point.state.servers ≡ slice_set ss host t = m ∙ ap (λ (zs : List ServerState). slice_set zs host t) was in
    let f : ClosesNoMore old new = h.fewer in
    let x = ap closings was in
    let y = ap closings now in
    let e = closings-set ss host s t there in
    omega arith

all-paid : (lines : WireLines) (n : ℕ) (ss : List ServerState) (host : ℕ) (t : ServerState) → ((x : ℕ) (s : ServerState) → slice_get ss x ≡ Some s → s.pool.owed ≡ []) → t.pool.owed ≡ [] →
    (x : ℕ) (s : ServerState) → slice_get (slice_set ss host t) x ≡ Some s → s.pool.owed ≡ []
all-paid lines n ss host t paid idle = λ x s e. elim (slice_get-set ss host t x s e) [
  | at_place i is ↦ ap (λ (u : ServerState). u.pool.owed) is ∙ idle
  | elsewhere i is ↦ paid x s is
]

-- it keeps what it keeps
pub IsKept-comes : {R : Type 0} {P : Fact → Type 0} (n moment : ℕ) (old new : Recorded) (before lines : WireLines) (topology : Topology) (ss : List ServerState) (time now : Option ClusterTime)
    (count counted last : ℕ) (stopped : Bool) (host : ℕ) (s t : ServerState) → IsKept old before topology ss time count last stopped → stopped ≡ false →
    Comes R P n moment old new → new.point.state.servers ≡ slice_set old.point.state.servers host t → slice_get ss host ≡ Some s → t.pool.owed ≡ [] →
    new.point.time ≡ option_map (λ (u : ClusterTime). u.stamp) now → last ≡ moment → count + n ≤ old.room.steps → KeepsCheckLines before lines →
    counted + closing_of s ≡ count + closing_of t → IsKept new lines topology (slice_set ss host t) now counted last stopped
IsKept-comes {R} {P} n moment old new before lines topology ss time now count counted last stopped host s t k runs h m there idle told is_now space keeps sum =
    let l = k.leads runs in
    let was : old.point.state.servers ≡ ss = ap (λ (w : ClientState). w.servers) l.state in
    let is : new.point.state.servers ≡ slice_set ss host t = m ∙ ap (λ (zs : List ServerState). slice_set zs host t) was in
    let f : ClosesNoMore old new = h.fewer in
    let x = ap closings was in
    let y = ap closings is in
    let e = closings-set ss host s t there in
    let c = k.counted in
    let r = h.space in
    let a = l.moment in
    let at = h.at (omega arith) in
    IsKept-beside n old new before lines topology ss (slice_set ss host t) time now count counted last stopped k runs h.goes is told (omega arith) (omega arith) (omega arith)
    (all-paid before (length old.steps) ss host t (λ x s e. (l.kept x s e).paid) idle) keeps

-- where nothing changed
pub IsKept-same : {N : Type 0} (old new : Standing N) (topology : Topology) (ss zs : List ServerState) (time : Option ClusterTime) (count last : ℕ) (stopped : Bool) → new ≡ old → zs ≡ ss →
    IsKept old.trail old.lines topology ss time count last stopped → IsKept new.trail new.lines topology zs time count last stopped
IsKept-same {N} old new topology ss zs time count last stopped same is k =
    subst (λ (x : Standing N). IsKept x.trail x.lines topology zs time count last stopped) (sym same)
    (subst (λ (xs : List ServerState). IsKept old.trail old.lines topology xs time count last stopped) (sym is) k)

-- where it stopped, and has no servers any more
pub IsKept-stopped : (trail : Recorded) (lines : WireLines) (topology : Topology) (ss : List ServerState) (time : Option ClusterTime) (last : ℕ) → ss ≡ [] → last ≤ 2 ^ 62 →
    IsKept trail lines topology ss time 0 last true
IsKept-stopped trail lines topology ss time last none within = record {
  leads = λ e. absurd (cc);
  counted = sym (ap closings none);
  in_range = within;
}

-- ---- The available connections that perished are shut

pub record HasShut (failed : Type 0) (moment : ℕ) (old new : Recorded) : Type 0 where
  pub n : ℕ
  pub used : old.room.steps ≡ new.room.steps + n
  pub comes : Comes failed NamesNone n moment old new
  pub time : new.point.time ≡ old.point.time

pub HasShut-all : {R : Type 0} (host moment : ℕ) (old new : Recorded) → Shuts host moment old new → HasShut R moment old new
HasShut-all {R} host moment old _ sweeping.none = record { n = 0; used = omega arith; comes = Comes-none moment old old refl; time = refl }
HasShut-all {R} host moment old _ (sweeping.more conn reason mid new shuts adds) =
    let h : HasShut R moment old mid = HasShut-all {R = R} host moment old mid shuts in
    record {
      n = h.n + 1;
      used = let x = h.used in let y = adds.room_used.steps in omega arith;
      comes = Comes-trans {R = R} h.n 1 moment old mid new h.comes (Comes-shut {R = R} moment host conn reason mid new (λ o. refl) adds);
      time = ap (λ (p : Point). p.time) adds.point_now ∙ h.time;
    }

-- they are no more than there were
pub shut-few : (moment host : ℕ) (old new : Recorded) (s t : ServerState) (n : ℕ) → old.room.steps ≡ new.room.steps + n → IsSweeping host moment old new s t →
    n ≤ length s.pool.state.available
shut-few moment host old new s t n used h = let r = h.room in omega arith

pub Aside-swept : {R : Type 0} (n moment host : ℕ) (old mid new : Recorded) (room : Room) (t : ServerState) → mid ≡ record old { room = room } → Comes R NamesNone n moment mid new →
    new.point.state ≡ with_one mid.point.state host t → AppendsAside R moment old new
Aside-swept {R} n moment host old mid new room t same h moved = record {
  appends = Appends-comes n moment old mid new room same h;
  aside = record {
    commands = ap (λ (w : ClientState). w.commands) moved ∙ ap (λ (r : Recorded). r.point.state.commands) same;
    sessions = ap (λ (w : ClientState). w.sessions) moved ∙ ap (λ (r : Recorded). r.point.state.sessions) same;
  };
  ids = h.ids ∙ ap (λ (r : Recorded). r.lists.sessions) same;
}

-- the item that was read is there
pub read-at : (ss : List ServerState) (host : ℕ) (s x : ServerState) → slice_get ss host ≡ Some s → x ≡ get_or ss host x → slice_get ss host ≡ Some x
read-at ss host s x there read = slice_get_read ss (length ss) host x refl (slice_get_within ss host s there) read
