-- A command leases a session, draws from it and gives it back: the trail behind these entries, and what is kept.
use Rattle.std.proofs.Common.{◌≡◌, ◌≢◌, ◌≤◌, ℕ, zero, suc, ◌+◌, Bool, true, false, not, ◌&&◌, List, [], ◌∷◌, ◌++◌, Option, None, Some, is_some, refl, sym, ap, ◌∙◌, subst, arith}
use Rattle.std.specs.Prelude.{ℤ, slice_get, slice_set, if◌then◌else◌}
use Rattle.std.proofs.lemmas.Bool.{eqb-true}
use Rattle.bson_doc.specs.declared.cluster_time.ClusterTime.{ClusterTime}
use Rattle.bson_doc.specs.declared.ids.Lsid.{Lsid}
use Rattle.sess_book.specs.Sessions.{Sessions}
use Rattle.sess_book.specs.declared.session.Holding.{Holding}
use Rattle.sess_book.specs.declared.session.Holding.TheVariants as holding
use Rattle.topo_rules.specs.declared.topology.Topology.{Topology}
use Rattle.write_retry.specs.declared.outcome.Outcome.{Outcome}
use Rattle.desk_trail.specs.Attempts.{finish_owes, finished}
use Rattle.desk_trail.specs.declared.entry.Entry.TheVariants as entry
use Rattle.desk_trail.specs.declared.room.Room.{Room}
use Rattle.desk_trail.specs.Facts.{Lists}
use Rattle.desk_trail.specs.Facts as fact
use Rattle.desk_trail.specs.Leases.{needs_number}
use Rattle.desk_trail.specs.Legal.{Point}
use Rattle.desk_trail.specs.Owed.{left_owed}
use Rattle.desk_trail.specs.Owed as owed
use Rattle.desk_trail.specs.States.{ClientState, CommandState, ServerState, changed_at}
use Rattle.desk_trail.specs.Written.{an_entry}
use Rattle.legal_trail.specs.Recorded.{Adds, Recorded}
use Rattle.cmd_step.specs.Ends.{with_it}
use Rattle.wired_trail.specs.Lines.{Lines as StreamLines}
use Rattle.wired_trail.specs.Standing.{Standing}
use Rattle.trail_laws.specs.Holding.{IsHeldFor}
use Rattle.sess_step.specs.Choices.{AreIds, HoldsSo}
use Rattle.sess_step.specs.Moves.{IsLeased, IsReturned, Leases, lease_lists, lease_room}
use Rattle.sess_step.specs.declared.command_at.CommandAt.{CommandAt}
use Rattle.sess_step.specs.declared.leasing.LeaseAnswer.{LeaseAnswer}
use Rattle.sess_step.specs.declared.leasing.LeaseAnswer.TheVariants as answer
use Rattle.desk_core.specs.Appends.{AppendsOf, IsOfLease, LeasesBy}
use Rattle.desk_core.specs.Commands.{MovesLease}
use Rattle.desk_core.specs.Kept.{IsKept}
use Rattle.desk_core.proofs.AppendsLemmas.{AreGrown, AreGrown-longer, AreGrown-session, AreLonger-refl, grown-adds, grown-same}
use Rattle.desk_core.proofs.BesideLemmas.{AreListed, GoesBeside, GoesBeside-adds, GoesBeside-entry, IsKept-beside, KeepsCheckLines-same}
use Rattle.desk_core.proofs.KeptLemmas.{servers-of}

-- ---- A command in its place

set-itself : {A : Type 0} (xs : List A) (k : ℕ) (x : A) → slice_get xs k ≡ Some x → slice_set xs k x ≡ xs
set-itself [] k x h = absurd (cc)
set-itself (z ∷ zs) zero x h = let same : x ≡ z = (cc) in ap (λ y. y ∷ zs) same
set-itself (z ∷ zs) (suc k) x h = ap (λ ys. z ∷ ys) (set-itself zs k x h)

set-twice : {A : Type 0} (xs : List A) (k : ℕ) (x y : A) → slice_set (slice_set xs k x) k y ≡ slice_set xs k y
set-twice [] k x y = refl
set-twice (z ∷ zs) zero x y = refl
set-twice (z ∷ zs) (suc k) x y = ap (λ ys. z ∷ ys) (set-twice zs k x y)

set-there : {A : Type 0} (xs : List A) (k : ℕ) (x y : A) → slice_get xs k ≡ Some y → slice_get (slice_set xs k x) k ≡ Some x
set-there [] k x y h = absurd (cc)
set-there (z ∷ zs) zero x y h = refl
set-there (z ∷ zs) (suc k) x y h = set-there zs k x y h

-- nothing changed
pub MovesLease-none : (op : ℕ) (c : CommandState) (s : Sessions) (trail : Recorded) → slice_get trail.point.state.commands op ≡ Some c →
    trail.point.state.sessions ≡ s → AreIds trail.lists.sessions s → MovesLease op c s trail trail
MovesLease-none op c s trail there book ids = record { commands = sym (set-itself trail.point.state.commands op c there); sessions = book; ids = ids }

-- the command is there as it is now
pub MovesLease-there : (op : ℕ) (c d : CommandState) (s : Sessions) (old new : Recorded) → slice_get old.point.state.commands op ≡ Some c → MovesLease op d s old new →
    slice_get new.point.state.commands op ≡ Some d
MovesLease-there op c d s old new there m = ap (λ cs. slice_get cs op) m.commands ∙ set-there old.point.state.commands op d c there

-- behind a trail of which the room alone changed
pub MovesLease-room : (op : ℕ) (c : CommandState) (s : Sessions) (old between new : Recorded) → between.point ≡ old.point → MovesLease op c s between new → MovesLease op c s old new
MovesLease-room op c s old between new same m = record {
  commands = m.commands ∙ ap (λ (p : Point). slice_set p.state.commands op c) same;
  sessions = m.sessions;
  ids = m.ids;
}

pub MovesLease-trans : (op : ℕ) (c d : CommandState) (s t : Sessions) (old between new : Recorded) → MovesLease op c s old between → MovesLease op d t between new →
    MovesLease op d t old new
MovesLease-trans op c d s t old between new a b = record {
  commands = b.commands ∙ ap (λ (cs : List CommandState). slice_set cs op d) a.commands ∙ set-twice old.point.state.commands op c d;
  sessions = b.sessions;
  ids = b.ids;
}

-- ---- What is kept

-- a trail that is as it was
pub IsKept-same : {N : Type 0} (old new : Standing N) (topology : Topology) (ss : List ServerState) (time : Option ClusterTime) (count last : ℕ) (stopped : Bool) → new ≡ old →
    IsKept old.trail old.lines topology ss time count last stopped → IsKept new.trail new.lines topology ss time count last stopped
IsKept-same {N} old new topology ss time count last stopped same k =
    subst (λ (s : Standing N). IsKept s.trail s.lines topology ss time count last stopped) (sym same) k

-- entries of commands that leave the servers, the greatest cluster time and the lines as they are
pub IsKept-apart : (n : ℕ) (old new : Recorded) (before lines : StreamLines) (topology : Topology) (ss : List ServerState) (time : Option ClusterTime) (count last : ℕ) (stopped : Bool) →
    GoesBeside n old new → new.point.state.servers ≡ old.point.state.servers → new.point.time ≡ old.point.time → new.point.moment ≤ last → count ≤ new.room.steps → lines ≡ before →
    stopped ≡ false → IsKept old before topology ss time count last stopped → IsKept new lines topology ss time count last stopped
IsKept-apart n old new before lines topology ss time count last stopped goes servers told at room same runs k =
    let h = k.leads runs in
    IsKept-beside n old new before lines topology ss ss time time count count last stopped k runs goes (servers ∙ servers-of old before topology ss time last h)
    (told ∙ h.greatest) at k.counted room (λ x t e. (h.kept x t e).paid) (KeepsCheckLines-same before lines same)

-- ---- A lease

steps-lease : (fresh : Bool) → (lease_room fresh).steps ≡ 1
steps-lease true = refl
steps-lease false = refl

grown-lease : (fresh : Bool) (lsid : Lsid) (l : Lists) → AreGrown l (lease_lists fresh lsid l)
grown-lease true lsid l = AreGrown-session l (lsid ∷ [])
grown-lease false lsid l = AreGrown-longer l l (AreLonger-refl l)

listed-lease : (op place : ℕ) (lsid : Lsid) (told fresh : Bool) (id : Lsid) (l : Lists) → AreListed (fact.Leased op place lsid told) l (lease_lists fresh id l)
listed-lease op place lsid told true id l = record { names = refl; events = refl; requests = omega arith }
listed-lease op place lsid told false id l = record { names = refl; events = refl; requests = omega arith }

beside-lease : (old new : Recorded) (at : CommandAt) (s t : Sessions) (c d : CommandState) (own : Lsid) → IsLeased old new at s t c d own → GoesBeside 1 old new
beside-lease old new at s t c d own l =
    GoesBeside-adds (lease_room l.fresh) (lease_lists l.fresh l.lsid old.lists) at.moment (entry.Leased at.op l.place l.fresh) (fact.Leased at.op l.place l.lsid l.fresh) old new tt
    (listed-lease at.op l.place l.lsid l.fresh l.fresh l.lsid old.lists) l.adds

pub IsKept-leases : (old new : Recorded) (before lines : StreamLines) (topology : Topology) (ss : List ServerState) (time : Option ClusterTime) (count last : ℕ) (stopped : Bool)
    (at : CommandAt) (s t : Sessions) (c d : CommandState) (own : Lsid) (a : LeaseAnswer) → Leases old new at s t c d own a → at.moment ≤ last → count + 1 ≤ old.room.steps →
    lines ≡ before → stopped ≡ false → IsKept old before topology ss time count last stopped → IsKept new lines topology ss time count last stopped
IsKept-leases old new before lines topology ss time count last stopped at s t c d own answer.Leased l now room same runs k =
    let used = l.adds.room_used.steps in
    let one = steps-lease l.fresh in
    let moment : new.point.moment ≡ at.moment = ap (λ (p : Point). p.moment) l.adds.point_now in
    IsKept-apart 1 old new before lines topology ss time count last stopped (beside-lease old new at s t c d own l) (ap (λ (w : ClientState). w.servers) l.moved)
    (ap (λ (p : Point). p.time) l.adds.point_now) (omega arith) (omega arith) same runs k
IsKept-leases old new before lines topology ss time count last stopped at s t c d own (answer.Repeated lsid) l now room same runs k =
    subst (λ (x : StreamLines). IsKept new x topology ss time count last stopped) (sym same)
    (subst (λ (r : Recorded). IsKept r before topology ss time count last stopped) (sym l.2) k)

pub MovesLease-leases : (old new : Recorded) (at : CommandAt) (s t : Sessions) (c d : CommandState) (own : Lsid) (a : LeaseAnswer) → Leases old new at s t c d own a →
    slice_get old.point.state.commands at.op ≡ Some c → old.point.state.sessions ≡ s → AreIds new.lists.sessions t → MovesLease at.op d t old new
MovesLease-leases old new at s t c d own answer.Leased l there book ids = record {
  commands = ap (λ (w : ClientState). w.commands) l.moved;
  sessions = ap (λ (w : ClientState). w.sessions) l.moved;
  ids = ids;
}
MovesLease-leases old new at s t c d own (answer.Repeated lsid) l there book ids = record {
  commands = ap (λ (r : Recorded). r.point.state.commands) l.2 ∙ sym (set-itself old.point.state.commands at.op c there)
      ∙ ap (λ (x : CommandState). slice_set old.point.state.commands at.op x) (sym l.4);
  sessions = ap (λ (r : Recorded). r.point.state.sessions) l.2 ∙ book ∙ sym l.3;
  ids = ids;
}

-- a fresh session has the id of the words
leases-by : (place : ℕ) (lsid own : Lsid) (op : ℕ) (fresh : Bool) → (fresh ≡ true → lsid ≡ own) → LeasesBy own (fact.Leased op place lsid fresh)
leases-by place lsid own op true made = made refl
leases-by place lsid own op false made = tt

pub grown-leases : {R : Type 0} (old new : Recorded) (at : CommandAt) (s t : Sessions) (c d : CommandState) (own : Lsid) (a : LeaseAnswer) → Leases old new at s t c d own a →
    AppendsOf R (IsOfLease at.op own) at.moment old new
grown-leases {R} old new at s t c d own answer.Leased l =
    grown-adds (lease_room l.fresh) (lease_lists l.fresh l.lsid old.lists) at.moment (entry.Leased at.op l.place l.fresh) (fact.Leased at.op l.place l.lsid l.fresh) old new
    (grown-lease l.fresh l.lsid old.lists) l.adds (λ e. absurd (cc))
    (λ x y. record { names = λ o e. sym (eqb-true at.op o e); looks = tt; leases = leases-by l.place l.lsid own at.op l.fresh l.taken.made })
grown-leases {R} old new at s t c d own (answer.Repeated lsid) l =
    grown-same at.moment old new (ap (λ (r : Recorded). r.client) l.2) (ap (λ (r : Recorded). r.lists) l.2) (ap (λ (r : Recorded). r.steps) l.2)

-- ---- How its session is held

-- where it needs a number it has none
unnumbered : (drew : Bool) (o : Option ℤ) → (drew && not (is_some o)) ≡ true → o ≡ None
unnumbered true None h = refl
unnumbered true (Some n) h = absurd (cc)
unnumbered false o h = absurd (cc)

-- a command that needs a number drew none from its session
pub HoldsSo-undrawn : (s : Sessions) (c : CommandState) → is_some c.session ≡ true → needs_number c ≡ true →
    ((place : ℕ) → c.session ≡ Some place → IsHeldFor s place c.number) → HoldsSo s c holding.Leased
HoldsSo-undrawn s c some needs held = by c.session refl some
  where
    by : (o : Option ℕ) → c.session ≡ o → is_some o ≡ true → HoldsSo s c holding.Leased
    by None e h = absurd (cc)
    by (Some place) e h =
        let k = held place e in
        record { place = place; has = e; so = record { session = k.session; there = k.there; so = k.undrawn (unnumbered c.op.drew c.number needs) } }

-- the session of a command is out
pub HoldsSo-out : (s : Sessions) (c : CommandState) → is_some c.session ≡ true → ((place : ℕ) → c.session ≡ Some place → IsHeldFor s place c.number) →
    (held : Holding) × (held ≢ holding.Nobody) × HoldsSo s c held
HoldsSo-out s c some held = by c.session refl some
  where
    by : (o : Option ℕ) → c.session ≡ o → is_some o ≡ true → (held : Holding) × (held ≢ holding.Nobody) × HoldsSo s c held
    by None e h = absurd (cc)
    by (Some place) e h =
        let k = held place e in
        (k.session.holding, k.is_out, record { place = place; has = e; so = record { session = k.session; there = k.there; so = refl } })

-- ---- A command is answered

-- what the entry leaves: the command is answered, and must give its session back where it holds one
pub record HasFinished (moment op : ℕ) (c d : CommandState) (old new : Recorded) : Type 0 where
  pub is : d ≡ finished c
  pub there : slice_get new.point.state.commands op ≡ Some d
  pub owes : new.point.owed ≡ (if is_some c.session then owed.Returned op ∷ [] else [])
  pub at : new.point.moment ≡ moment
  pub goes : GoesBeside 1 old new
  pub commands : new.point.state.commands ≡ slice_set old.point.state.commands op d
  pub sessions : new.point.state.sessions ≡ old.point.state.sessions
  pub ids : new.lists.sessions ≡ old.lists.sessions
  pub servers : new.point.state.servers ≡ old.point.state.servers
  pub going : new.point.state.is_ending ≡ old.point.state.is_ending
  pub time : new.point.time ≡ old.point.time

owed-finished : (b : Bool) (op : ℕ) → (if b then owed.Returned op ∷ [] else []) ++ [] ≡ (if b then owed.Returned op ∷ [] else [])
owed-finished true op = refl
owed-finished false op = refl

HasFinished-by : (moment op : ℕ) (outcome : Outcome) (c d : CommandState) (old new : Recorded) → old.point.owed ≡ [] → slice_get old.point.state.commands op ≡ Some c →
    Adds an_entry old.lists moment (entry.Finished op outcome) (fact.Finished op outcome) old new → new.point.state ≡ with_it old.point.state op d → HasFinished moment op c d old new
HasFinished-by moment op outcome c d old new paid there adds moved =
    let w : ClientState = old.point.state in
    let commands : new.point.state.commands ≡ slice_set w.commands op d = ap (λ (v : ClientState). v.commands) moved in
    let stands : slice_get new.point.state.commands op ≡ Some d = ap (λ cs. slice_get cs op) commands ∙ set-there w.commands op d c there in
    let told : new.point.state.commands ≡ slice_set w.commands op (finished c) =
    ap (λ (p : Point). p.state.commands) adds.point_now ∙ ap (λ o. changed_at w.commands op o finished) there in
    let also : slice_get new.point.state.commands op ≡ Some (finished c) = ap (λ cs. slice_get cs op) told ∙ set-there w.commands op (finished c) c there in
    record {
      is = let both = sym stands ∙ also in (cc);
      there = stands;
      owes = ap (λ (p : Point). p.owed) adds.point_now ∙ ap (λ os. finish_owes op (slice_get w.commands op) ++ left_owed os (fact.Finished op outcome)) paid
          ∙ ap (λ o. finish_owes op o ++ []) there ∙ owed-finished (is_some c.session) op;
      at = ap (λ (p : Point). p.moment) adds.point_now;
      goes = GoesBeside-entry an_entry moment (entry.Finished op outcome) (fact.Finished op outcome) old new tt refl adds;
      commands = commands;
      sessions = ap (λ (v : ClientState). v.sessions) moved;
      ids = ap (λ (l : Lists). l.sessions) adds.lists_now;
      servers = ap (λ (v : ClientState). v.servers) moved;
      going = ap (λ (v : ClientState). v.is_ending) moved;
      time = ap (λ (p : Point). p.time) adds.point_now;
    }

-- the same behind room that was taken
pub point-reserved : {N : Type 0} (old new : Standing N) (room : Room) → new ≡ record old { trail = record old.trail { room = room } } → new.trail.point ≡ old.trail.point
point-reserved {N} old new room same = ap (λ (s : Standing N). s.trail.point) same

pub HasFinished-reserved : {N : Type 0} (old r : Standing N) (new : Recorded) (room : Room) (moment op : ℕ) (outcome : Outcome) (c d : CommandState) →
    r ≡ record old { trail = record old.trail { room = room } } → old.trail.point.owed ≡ [] → slice_get old.trail.point.state.commands op ≡ Some c →
    Adds an_entry r.trail.lists moment (entry.Finished op outcome) (fact.Finished op outcome) r.trail new → new.point.state ≡ with_it r.trail.point.state op d →
    HasFinished moment op c d r.trail new
HasFinished-reserved {N} old r new room moment op outcome c d same paid there adds moved =
    let point = point-reserved old r room same in
    HasFinished-by moment op outcome c d r.trail new (ap (λ (p : Point). p.owed) point ∙ paid) (ap (λ (p : Point). slice_get p.state.commands op) point ∙ there) adds moved

-- and it gave its session back
pub MovesLease-returned : (at : CommandAt) (c d e : CommandState) (s t : Sessions) (old between new : Recorded) → HasFinished at.moment at.op c d old between →
    IsReturned between new at s t d e → AreIds new.lists.sessions t → MovesLease at.op e t old new
MovesLease-returned at c d e s t old between new f r ids = record {
  commands = ap (λ (v : ClientState). v.commands) r.moved ∙ ap (λ cs. slice_set cs at.op e) f.commands ∙ set-twice old.point.state.commands at.op d e;
  sessions = ap (λ (v : ClientState). v.sessions) r.moved;
  ids = ids;
}

-- what is kept behind these
pub IsKept-finished : (old new : Recorded) (before lines : StreamLines) (topology : Topology) (ss : List ServerState) (time : Option ClusterTime) (count last moment op : ℕ)
    (stopped : Bool) (c d : CommandState) → HasFinished moment op c d old new → moment ≤ last → count ≤ new.room.steps → lines ≡ before → stopped ≡ false →
    IsKept old before topology ss time count last stopped → IsKept new lines topology ss time count last stopped
IsKept-finished old new before lines topology ss time count last moment op stopped c d f now room same runs k =
    let at = f.at in
    IsKept-apart 1 old new before lines topology ss time count last stopped f.goes f.servers f.time (omega arith) room same runs k

pub IsKept-returned : (old new : Recorded) (before lines : StreamLines) (topology : Topology) (ss : List ServerState) (time : Option ClusterTime) (count last : ℕ)
    (stopped : Bool) (at : CommandAt) (c d : CommandState) (s t : Sessions) → IsReturned old new at s t c d → at.moment ≤ last → count ≤ new.room.steps → lines ≡ before →
    stopped ≡ false → IsKept old before topology ss time count last stopped → IsKept new lines topology ss time count last stopped
IsKept-returned old new before lines topology ss time count last stopped at c d s t r now room same runs k =
    let moment : new.point.moment ≡ at.moment = ap (λ (p : Point). p.moment) r.adds.point_now in
    IsKept-apart 1 old new before lines topology ss time count last stopped
    (GoesBeside-entry an_entry at.moment (entry.Returned at.op c.is_dirty r.kept) (fact.Returned at.op c.is_dirty r.kept) old new tt refl r.adds)
    (ap (λ (v : ClientState). v.servers) r.moved) (ap (λ (p : Point). p.time) r.adds.point_now) (omega arith) room same runs k
