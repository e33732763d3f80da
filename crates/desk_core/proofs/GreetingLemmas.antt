-- A connection that a command dialled is established or lost: as entries of a trail, and the cluster time that is the greatest behind
-- them.
use Rattle.std.proofs.Common.{◌≡◌, ◌≤◌, ◌+◌, ℕ, Bool, true, false, List, [], ◌∷◌, get_or, Option, None, Some, refl, sym, ap, ◌∙◌, subst, arith}
use Rattle.std.specs.Prelude.{nat_lt, slice_get, slice_set, if◌then◌else◌}
use Rattle.std.specs.Option.{option_map}
use Rattle.bson_doc.specs.declared.cluster_time.ClusterTime.{ClusterTime}
use Rattle.pool_book.specs.Pool.{held_of}
use Rattle.pool_book.specs.declared.connections.Held.{Held}
use Rattle.topo_rules.specs.declared.event.TopoEvent.TheVariants as event
use Rattle.topo_rules.specs.declared.topology.Topology.{Topology}
use Rattle.write_retry.specs.declared.events.Next.TheVariants as next
use Rattle.write_retry.specs.declared.events.Unsent.{Unsent}
use Rattle.write_retry.specs.declared.events.Unsent.TheVariants as unsent
use Rattle.desk_trail.specs.Attempts.{not_lent_offers}
use Rattle.desk_trail.specs.Checks.{AtServer}
use Rattle.desk_trail.specs.Facts.{Fact}
use Rattle.desk_trail.specs.Legal.{Point}
use Rattle.desk_trail.specs.Owed as owed
use Rattle.desk_trail.specs.States.{ClientState, CommandState, Dials, ServerState}
use Rattle.legal_trail.specs.Recorded.{Recorded}
use Rattle.trail_laws.specs.Waiting.{WaitsAtItsServer, WaitsBy}
use Rattle.wired_trail.specs.Lines.{Lines as WireLines}
use Rattle.cmd_step.specs.Free.{IsFree}
use Rattle.cmd_step.specs.Losses.{HasDialled, IsLost, loss_owes}
use Rattle.cmd_step.specs.Places.{AreAt}
use Rattle.cmd_step.specs.Settlings.{Settles}
use Rattle.cmd_step.specs.Times.{TellsTime}
use Rattle.cmd_step.specs.declared.losing.Loss.{Loss}
use Rattle.cmd_step.specs.declared.place.At.{At}
use Rattle.cmd_step.specs.declared.settled.Greeted.{Greeted}
use Rattle.cmd_step.specs.declared.settled.Settling.{Settling}
use Rattle.cmd_step.specs.declared.settled.Settling.TheVariants as settling
use Rattle.desk_core.specs.Appends.{AppendsOf, IsOfOp}
use Rattle.desk_core.specs.CheckLines.{KeepsCheckLines}
use Rattle.desk_core.specs.CheckOuts.{IsToOfferLoss, KeepsAddress, heard, news_of}
use Rattle.desk_core.specs.Commands.{MovesOne}
use Rattle.desk_core.specs.Greetings.{IsDialledBy}
use Rattle.desk_core.specs.Kept.{IsKept, LeadsTo}
use Rattle.desk_core.specs.Servers.{closing_of, closings}
use Rattle.desk_core.specs.State.{Core}
use Rattle.desk_core.specs.declared.greeting.Dialled.{Dialled}
use Rattle.desk_core.proofs.AnswerLemmas.{Came, Came-lost, Came-news, Came-trans, came}
use Rattle.desk_core.proofs.AppendsLemmas.{Plain-aside, grown-same}
use Rattle.desk_core.proofs.ComesLemmas.{Comes, Comes-lent, Comes-not_lent, Comes-settled, Comes-shut, Comes-unsent, IsKept-comes, IsMoved, IsMoved-both, KeepsAddress-comes, closing-less, closing-within, set-there}
use Rattle.desk_core.proofs.DropLemmas.{read-there}
use Rattle.desk_core.proofs.PoolLemmas.{at-servers}
use Rattle.desk_core.proofs.ServerLemmas.{slice_get-set_same}

-- ---- The cluster time

abbrev pub stamp_of : Option ClusterTime → Option ℕ
stamp_of time = option_map (λ (t : ClusterTime). t.stamp) time

-- the greatest stamp behind news
abbrev pub told_by : Option ℕ → Option ℕ → Option ℕ
told_by None greatest = greatest
told_by (Some stamp) greatest = Some stamp

time-told : (moment : ℕ) (news : Option ℕ) (old new : Recorded) → TellsTime moment news old new → new.point.time ≡ told_by news old.point.time
time-told moment None old new told = ap (λ (r : Recorded). r.point.time) told
time-told moment (Some stamp) old new told = ap (λ (p : Point). p.time) told.point_now

-- of a time that came, whether it exceeds the one that is kept or not
told-heard : (kept time : Option ClusterTime) → told_by (stamp_of (news_of kept time)) (stamp_of kept) ≡ stamp_of (heard kept time)
told-heard kept None = refl
told-heard None (Some t) = refl
told-heard (Some k) (Some t) =
    elim (nat_lt k.stamp t.stamp) as (λ b. told_by (stamp_of (if b then Some t else None)) (Some k.stamp) ≡ stamp_of (if b then Some t else Some k)) [ true ↦ refl | false ↦ refl ]

pub told-now : (kept now time : Option ClusterTime) (news greatest : Option ℕ) → news ≡ stamp_of (news_of kept time) → now ≡ heard kept time → greatest ≡ stamp_of kept →
    told_by news greatest ≡ stamp_of now
told-now kept now time news greatest a b c = ap (λ n. told_by n greatest) a ∙ ap (λ m. told_by (stamp_of (news_of kept time)) m) c ∙ told-heard kept time ∙ ap stamp_of (sym b)

-- ---- The entries

-- so many came, of such news; the server and the command are these now
pub record IsPast (at : At) (news : Option ℕ) (old new : Recorded) (t : ServerState) (d : CommandState) : Type 0 where
  pub n : ℕ
  pub few : n ≤ 5
  pub comes : Comes ⊥ (IsOfOp at.op) n at.moment old new
  pub moved : IsMoved old new at t d
  pub time : new.point.time ≡ told_by news old.point.time
  pub now : new.point.moment ≡ at.moment

IsPast-came : (at : At) (news : Option ℕ) (old new : Recorded) (t : ServerState) (d : CommandState) → Came ⊥ (IsOfOp at.op) 5 at.moment old new → IsMoved old new at t d →
    new.point.time ≡ told_by news old.point.time → new.point.moment ≡ at.moment → IsPast at news old new t d
IsPast-came at news old new t d c moved time now = record { n = c.n; few = c.few; comes = c.comes; moved = moved; time = time; now = now }

pub IsPast-settled : (at : At) (greeted : Greeted) (x : Settling) (old new : Recorded) (t : ServerState) (d : CommandState) → Settles at greeted x old new t d →
    IsPast at greeted.news old new t d
IsPast-settled at greeted settling.Lent old new t d h =
    let m = at.moment in
    let settled : Came ⊥ (IsOfOp at.op) 1 m old h.mid = came {R = ⊥} 1 1 m old h.mid (omega arith) (Comes-settled {R = ⊥} m at.op at.host greeted.conn false old h.mid h.settled) in
    let lent : Came ⊥ (IsOfOp at.op) 1 m h.heard new = came {R = ⊥} 1 1 m h.heard new (omega arith) (Comes-lent {R = ⊥} m at.op at.host greeted.conn h.heard new h.lent) in
    let all : Came ⊥ (IsOfOp at.op) 3 m old new =
    Came-trans {R = ⊥} 2 1 m old h.heard new (Came-trans {R = ⊥} 1 1 m old h.mid h.heard settled (Came-news {R = ⊥} m greeted.news h.mid h.heard h.news)) lent in
    let few = all.few in
    IsPast-came at greeted.news old new t d (came {R = ⊥} all.n 5 m old new (omega arith) all.comes) (IsMoved-both old new at t d h.moved)
    (ap (λ (p : Point). p.time) h.lent.point_now ∙ time-told m greeted.news h.mid h.heard h.news ∙ ap (λ (p : Point). told_by greeted.news p.time) h.settled.point_now)
    (ap (λ (p : Point). p.moment) h.lent.point_now)
IsPast-settled at greeted (settling.Refused why) old new t d h =
    let m = at.moment in
    let settled : Came ⊥ (IsOfOp at.op) 1 m old h.mid = came {R = ⊥} 1 1 m old h.mid (omega arith) (Comes-settled {R = ⊥} m at.op at.host greeted.conn true old h.mid h.settled) in
    let shuts : Came ⊥ (IsOfOp at.op) 1 m h.heard h.shut = came {R = ⊥} 1 1 m h.heard h.shut (omega arith) (Comes-shut {R = ⊥} m at.host greeted.conn _ h.heard h.shut (Plain-aside at.op _ (λ o. refl)) h.shuts) in
    let told : Came ⊥ (IsOfOp at.op) 1 m h.shut h.refused = came {R = ⊥} 1 1 m h.shut h.refused (omega arith) (Comes-not_lent {R = ⊥} m at.op at.host why h.shut h.refused h.told) in
    let ends : Came ⊥ (IsOfOp at.op) 1 m h.refused new = came {R = ⊥} 1 1 m h.refused new (omega arith) (Comes-unsent {R = ⊥} m at.op why h.refused new h.ends) in
    let first : Came ⊥ (IsOfOp at.op) 2 m old h.heard = Came-trans {R = ⊥} 1 1 m old h.mid h.heard settled (Came-news {R = ⊥} m greeted.news h.mid h.heard h.news) in
    let last : Came ⊥ (IsOfOp at.op) 2 m h.shut new = Came-trans {R = ⊥} 1 1 m h.shut h.refused new told ends in
    IsPast-came at greeted.news old new t d (Came-trans {R = ⊥} 3 2 m old h.shut new (Came-trans {R = ⊥} 2 1 m old h.heard h.shut first shuts) last) (IsMoved-both old new at t d h.moved)
    (ap (λ (p : Point). p.time) h.ends.point_now ∙ ap (λ (p : Point). p.time) h.told.point_now ∙ ap (λ (p : Point). p.time) h.shuts.point_now
    ∙ time-told m greeted.news h.mid h.heard h.news ∙ ap (λ (p : Point). told_by greeted.news p.time) h.settled.point_now)
    (ap (λ (p : Point). p.moment) h.ends.point_now)

pub IsPast-lost : (at : At) (loss : Loss) (old new : Recorded) (t : ServerState) (d : CommandState) → IsLost at loss old new t d → IsPast at loss.news old new t d
IsPast-lost at loss old new t d h =
    let m = at.moment in
    let all : Came ⊥ (IsOfOp at.op) 4 m old new = Came-lost {R = ⊥} at loss old new t d h in
    let few = all.few in
    IsPast-came at loss.news old new t d (came {R = ⊥} all.n 5 m old new (omega arith) all.comes) (IsMoved-both old new at t d h.moved)
    (ap (λ (p : Point). p.time) h.shuts.point_now ∙ ap (λ (p : Point). p.time) h.ends.point_now ∙ time-told m loss.news h.mid h.heard h.news
    ∙ ap (λ (p : Point). told_by loss.news p.time) h.told.point_now)
    (ap (λ (p : Point). p.moment) h.shuts.point_now)

-- ---- When they may come

-- what a command is to do that waits for a greeting
pub asks-by : (host ticket conn : ℕ) (c : CommandState) → c.check_out ≡ Dials host ticket conn → WaitsAtItsServer c → c.op.next ≡ next.CheckOut host
asks-by host ticket conn c dials law = subst (λ k. WaitsBy k c.op.next) dials law

-- a command that dialled a connection, at its server of those that a desk has
pub record IsStage (trail : Recorded) (ss : List ServerState) (at : At) (conn : ℕ) (s : ServerState) (e : CommandState) : Type 0 where
  pub free : IsFree trail.point at.moment
  pub places : AreAt trail.point.state at s e
  pub idle : s.pool.owed ≡ []
  pub dialled : HasDialled at conn s e
  pub there : slice_get ss at.host ≡ Some s
  pub within : closing_of s ≤ closings ss

pub IsStage-by : (trail : Recorded) (lines : WireLines) (topology : Topology) (ss : List ServerState) (time : Option ClusterTime) (last op moment : ℕ) (d : Dialled) (c e : CommandState)
    (x : ServerState) → LeadsTo trail lines topology ss time last → trail.point.owed ≡ [] → last ≡ moment → slice_get trail.point.state.commands op ≡ Some c →
    (h : IsDialledBy trail.point.state c d) → e ≡ c → x ≡ get_or ss d.host x → IsStage trail ss (record { op = op; host = d.host; moment = moment }) d.conn x e
IsStage-by trail lines topology ss time last op moment d c e x l paid now command h same read =
    let first : slice_get ss d.host ≡ Some h.server = at-servers trail lines topology ss time last d.host h.server l h.there in
    let is : x ≡ h.server = read-there ss d.host h.server x first read in
    let there : slice_get ss d.host ≡ Some x = first ∙ ap (λ u. Some u) (sym is) in
    record {
      free = record { paid = paid; time = let m = l.moment in omega arith; goes_on = ap (λ (w : ClientState). w.is_ending) l.state };
      places = record { server = h.there ∙ ap (λ u. Some u) (sym is); command = command ∙ ap (λ u. Some u) (sym same) };
      idle = (l.kept d.host x there).paid;
      dialled = record {
        held = h.held;
        pending = ap (λ (u : ServerState). held_of d.conn u.pool.state.pending) is ∙ h.pending;
        dials = ap (λ (u : CommandState). u.check_out) same ∙ h.dials;
        asks = ap (λ (u : CommandState). u.op.next) same ∙ h.asks;
      };
      there = there;
      within = closing-within ss d.host x there;
    }

-- ---- What a desk keeps behind them

pub closing-past : (at : At) (news : Option ℕ) (old new : Recorded) (lines : WireLines) (topology : Topology) (ss : List ServerState) (time : Option ClusterTime) (conn last : ℕ)
    (s t : ServerState) (e d : CommandState) → LeadsTo old lines topology ss time last → IsStage old ss at conn s e → IsPast at news old new t d → closing_of t ≤ closing_of s
closing-past at news old new lines topology ss time conn last s t e d l stage past =
    closing-less {R = ⊥} past.n at.moment old new lines topology ss time last at.host s t l past.comes past.moved.servers stage.there

pub IsKept-past : (at : At) (news : Option ℕ) (old new : Recorded) (before lines : WireLines) (topology : Topology) (ss : List ServerState) (time now came_time : Option ClusterTime)
    (count counted conn last : ℕ) (stopped : Bool) (s t : ServerState) (e d : CommandState) → IsKept old before topology ss time count last stopped → stopped ≡ false →
    IsStage old ss at conn s e → IsPast at news old new t d → t.pool.owed ≡ [] → news ≡ stamp_of (news_of time came_time) → now ≡ heard time came_time → last ≡ at.moment →
    count + 5 ≤ old.room.steps → KeepsCheckLines before lines → counted + closing_of s ≡ count + closing_of t →
    IsKept new lines topology (slice_set ss at.host t) now counted last stopped
IsKept-past at news old new before lines topology ss time now came_time count counted conn last stopped s t e d k runs stage past idle is_news is_now is_last space keeps sum =
    let l = k.leads runs in
    let few = past.few in
    IsKept-comes {R = ⊥} past.n at.moment old new before lines topology ss time now count counted last stopped at.host s t k runs past.comes past.moved.servers stage.there idle
    (past.time ∙ told-now time now came_time news old.point.time is_news is_now l.greatest) is_last (omega arith) keeps sum

pub KeepsAddress-past : (at : At) (news : Option ℕ) (old new : Recorded) (t : ServerState) (d : CommandState) → IsPast at news old new t d →
    KeepsAddress at.host old.point.state new.point.state
KeepsAddress-past at news old new t d past = KeepsAddress-comes {R = ⊥} past.n at.moment at.host old old new old.room t refl past.comes past.moved.servers

-- ---- What a loss tells of its server

-- by its address and whether it left alone
offers-same : (generation : ℕ) (why : Unsent) (s t : ServerState) → t.address ≡ s.address → t.has_left ≡ s.has_left →
    not_lent_offers (Some (record { server = t; generation = generation })) why ≡ not_lent_offers (Some (record { server = s; generation = generation })) why
offers-same generation (unsent.Dial false) s t address left =
    λ i. (if left i then [] else owed.Offered (event.Broken (address i) (Some generation)) ∷ [])
offers-same generation (unsent.Greeting code) s t address left =
    λ i. (if left i then [] else owed.Offered (event.Broken (address i) (Some generation)) ∷ [])
offers-same generation (unsent.Dial true) s t address left = refl
offers-same generation unsent.PoolLate s t address left = refl
offers-same generation (unsent.PoolCleared g) s t address left = refl
offers-same generation (unsent.PoolClosed host) s t address left = refl
offers-same generation (unsent.TooLarge size most) s t address left = refl

pub ToOffer-past : {N : Type 0} (v : Core N) (at : At) (news : Option ℕ) (generation conn : ℕ) (why : Unsent) (old new : Recorded) (ss : List ServerState) (s t : ServerState)
    (e d : CommandState) (h : Held) → IsStage old ss at conn s e → IsPast at news old new t d → v.trail ≡ new → v.is_stopped ≡ false → v.last ≡ at.moment →
    v.closings ≤ new.room.steps → h.generation ≡ generation → new.point.owed ≡ loss_owes s h why →
    AtServer v.trail.point.state at.host (IsToOfferLoss v at.moment generation why)
ToOffer-past {N} v at news generation conn why old new ss s t e d h stage past is runs now room same owes =
    let there : slice_get new.point.state.servers at.host ≡ Some t =
    ap (λ (zs : List ServerState). slice_get zs at.host) past.moved.servers ∙ slice_get-set_same old.point.state.servers at.host t s stage.places.server in
    let k = past.comes.goes.servers at.host t there in
    let was : k.0 ≡ s = let q : Some k.0 ≡ Some s = sym k.1 ∙ stage.places.server in (cc) in
    let address : t.address ≡ s.address = k.2.address ∙ ap (λ (u : ServerState). u.address) was in
    let left : t.has_left ≡ s.has_left = k.2.left ∙ ap (λ (u : ServerState). u.has_left) was in (
      t,
      ap (λ (r : Recorded). slice_get r.point.state.servers at.host) is ∙ there,
      record {
        runs = runs;
        owes =
            ap (λ (r : Recorded). r.point.owed) is ∙ owes ∙ ap (λ n. not_lent_offers (Some (record { server = s; generation = n })) why) same
            ∙ sym (offers-same generation why s t address left);
        at = ap (λ (r : Recorded). r.point.moment) is ∙ past.now;
        now = now;
        space = let q = ap (λ (r : Recorded). r.room.steps) is in omega arith;
      },
    )

pub MovesOne-room : (op : ℕ) (c : CommandState) (old new : Recorded) → new ≡ record old { room = new.room } → slice_get old.point.state.commands op ≡ Some c → MovesOne op c old new
MovesOne-room op c old new same there = record {
  commands = ap (λ (r : Recorded). r.point.state.commands) same ∙ sym (set-there old.point.state.commands op c there);
  sessions = ap (λ (r : Recorded). r.point.state.sessions) same;
  ids = ap (λ (r : Recorded). r.lists.sessions) same;
}

pub grown-room : {R : Type 0} {P : Fact → Type 0} (moment : ℕ) (old new : Recorded) → new ≡ record old { room = new.room } → AppendsOf R P moment old new
grown-room {R} {P} moment old new same =
    grown-same {R = R} moment old new (ap (λ (r : Recorded). r.client) same) (ap (λ (r : Recorded). r.lists) same) (ap (λ (r : Recorded). r.steps) same)
