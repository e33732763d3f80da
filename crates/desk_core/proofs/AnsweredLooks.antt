-- What a command's look is, from what its phases are.
use Rattle.std.proofs.Common.{◌≡◌, ◌≢◌, ◌≤◌, ℕ, List, [], length, filter, Some, refl, sym, ap, ◌∙◌, subst, arith}
use Rattle.std.specs.Prelude.{slice_get, unwrap_or}
use Rattle.net_link.specs.Causes.{Rose}
use Rattle.desk_trail.specs.declared.entry.LookedHow.{LookedHow}
use Rattle.desk_trail.specs.declared.entry.LookedHow.TheVariants as looked
use Rattle.desk_trail.specs.Checks.{due_from}
use Rattle.desk_trail.specs.Clients.{Client}
use Rattle.desk_trail.specs.Facts.{Fact}
use Rattle.desk_trail.specs.Looks.{deadline, in_flight, is_at, look_owes}
use Rattle.desk_trail.specs.States.{ClientState, CommandState, ServerState}
use Rattle.legal_trail.specs.Recorded.{Recorded}
use Rattle.cmd_step.specs.Looked.{servers_behind}
use Rattle.desk_core.specs.Appends.{AppendsAside, AppendsOf}
use Rattle.desk_core.specs.Commands.{IsAtWork, MovesOne}
use Rattle.desk_core.specs.Kept.{IsReady, IsWriting}
use Rattle.desk_core.specs.Looks.{StillSelects}
use Rattle.desk_core.specs.State.{Core}
use Rattle.desk_core.specs.Steps.{IsWaiting}
use Rattle.desk_core.proofs.AppendsLemmas.{Appends-quiet, Appends-trans, Appends-weaken, grown-trans, grown-weaken}
use Rattle.desk_core.proofs.BesideLemmas.{MovesOne-aside, MovesOne-behind}
use Rattle.desk_core.proofs.LookLemmas.{IsWaiting-selects}

-- ---- Behind the checks that were read

pub IsAtWork-behind : {N R : Type 0} (moment op : ℕ) (c : CommandState) (old new : Core N) → IsReady new moment → AppendsAside R moment old.trail new.trail →
    IsAtWork old moment op c → IsAtWork new moment op c
IsAtWork-behind {N} {R} moment op c old new ready aside work = record {
  ready = ready;
  there = ap (λ (cs : List CommandState). slice_get cs op) aside.aside.commands ∙ work.there;
}

pub counts-behind : (counts : List ℕ) (w v : ClientState) → v.commands ≡ w.commands → ((host : ℕ) → unwrap_or (slice_get counts host) 0 ≡ in_flight w (Some host)) →
    (host : ℕ) → unwrap_or (slice_get counts host) 0 ≡ in_flight v (Some host)
counts-behind counts w v same h = λ host. h host ∙ ap (λ (cs : List CommandState). length (filter (is_at host) cs)) (sym same)

-- ---- Behind the look

pub IsWriting-owed : {N : Type 0} (d : Core N) (moment : ℕ) (how : LookedHow) (w : ClientState) → how ≡ looked.NoneFits →
    d.trail.point.state.servers ≡ servers_behind moment how w.servers → IsWriting d moment 0 (look_owes moment how w) →
    IsWriting d moment 0 (due_from 0 moment d.trail.point.state.servers)
IsWriting-owed {N} d moment how w none servers h = record {
  runs = h.runs;
  owes =
      h.owes ∙ ap (λ (x : LookedHow). look_owes moment x w) none
      ∙ ap (λ (ss : List ServerState). due_from 0 moment ss) (sym (servers ∙ ap (λ (x : LookedHow). servers_behind moment x w.servers) none));
  at = h.at;
  now = h.now;
  space = h.space;
}

owes-found : (moment : ℕ) (how : LookedHow) (w : ClientState) → how ≢ looked.NoneFits → look_owes moment how w ≡ []
owes-found moment (looked.Chosen host) w n = refl
owes-found moment looked.NoneFits w n = absurd (n refl)
owes-found moment looked.Failed w n = refl
owes-found moment (looked.Incompatible host) w n = refl

pub IsReady-found : {N : Type 0} (d : Core N) (moment : ℕ) (how : LookedHow) (w : ClientState) → how ≢ looked.NoneFits → IsWriting d moment 0 (look_owes moment how w) →
    IsReady d moment
IsReady-found {N} d moment how w n h = record { runs = h.runs; paid = h.owes ∙ owes-found moment how w n; now = h.now }

pub means-wait : (client now : Client) (w : ClientState) (moment until : ℕ) (c d : CommandState) → now ≡ client → StillSelects now moment c d → until ≡ deadline client c moment →
    IsWaiting client w moment until d
means-wait client now w moment until c d same s is = IsWaiting-selects client w moment until c d (subst (λ (k : Client). StillSelects k moment c d) same s) is

-- ---- What was appended

pub Rose-later : (a b c : ℕ) → b ≤ c → Rose a b → Rose a c
Rose-later a b c more r = omega arith

pub Rose-earlier : (a b c : ℕ) → a ≤ b → Rose b c → Rose a c
Rose-earlier a b c more r = omega arith

pub grown-two : {P : Fact → Type 0} (moment f g h : ℕ) (old mid new : Recorded) → g ≤ h → AppendsOf (Rose f g) P moment old mid → AppendsOf ⊥ P moment mid new → AppendsOf (Rose f h) P moment old new
grown-two {P} moment f g h old mid new more a b =
    grown-trans moment old mid new (grown-weaken moment old mid (Rose-later f g h more) a) (grown-weaken moment mid new (λ e. absurd e) b)

pub grown-three : {P : Fact → Type 0} (moment f g h k : ℕ) (old mid told new : Recorded) → f ≤ g → g ≤ h → h ≤ k → AppendsOf (Rose f g) P moment old mid → AppendsOf ⊥ P moment mid told →
    AppendsOf (Rose h k) P moment told new → AppendsOf (Rose f k) P moment old new
grown-three {P} moment f g h k old mid told new fg gh hk a b c =
    grown-trans moment old told new
    (grown-weaken moment old told (Rose-later f h k hk) (grown-two moment f g h old mid told gh a b))
    (grown-weaken moment told new (Rose-earlier f h k (omega arith)) c)

pub moves-two : {R : Type 0} (op moment : ℕ) (d : CommandState) (old mid told : Recorded) → AppendsAside R moment old mid → MovesOne op d mid told → MovesOne op d old told
moves-two {R} op moment d old mid told a m = MovesOne-behind op moment d old mid told a m

pub moves-three : {R S : Type 0} (op moment : ℕ) (d : CommandState) (old mid told new : Recorded) → AppendsAside R moment old mid → MovesOne op d mid told →
    AppendsAside S moment told new → MovesOne op d old new
moves-three {R} {S} op moment d old mid told new a m b = MovesOne-aside op moment d old told new (MovesOne-behind op moment d old mid told a m) b

-- entries of checks, one step of reading them after the other
pub aside-two : (moment f g h : ℕ) (old mid new : Recorded) → g ≤ h → AppendsAside (Rose f g) moment old mid → AppendsAside ⊥ moment mid new →
    AppendsAside (Rose f h) moment old new
aside-two moment f g h old mid new more a b =
    Appends-trans moment old mid new (Appends-weaken moment old mid (Rose-later f g h more) a) (Appends-quiet moment mid new b)

pub aside-next : (moment f g h : ℕ) (old mid new : Recorded) → f ≤ g → g ≤ h → AppendsAside (Rose f g) moment old mid → AppendsAside (Rose g h) moment mid new →
    AppendsAside (Rose f h) moment old new
aside-next moment f g h old mid new fg gh a b =
    Appends-trans moment old mid new (Appends-weaken moment old mid (Rose-later f g h gh) a) (Appends-weaken moment mid new (Rose-earlier f g h fg) b)
