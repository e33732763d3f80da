-- A stream of a hall whose numbers are those of its members, with another state.
use Rattle.std.proofs.Common.{◌≡◌, ◌<◌, ◌≤◌, ◌+◌, ℕ, zero, suc, Bool, List, [], ◌∷◌, true, false, Some, None, Option, Result, Ok, Err, cond, eqb, leb, length, set, refl, sym, ap, ◌∙◌, arith, subst}
use Rattle.std.specs.List.{All}
use Rattle.std.specs.Result.{OnOk, OnErr}
use Rattle.std.proofs.lemmas.Result.{on_err_weaker, on_ok_weaker}
use Rattle.std.proofs.lemmas.Bool.{eqb-true, eqb-false}
use Rattle.std.proofs.lemmas.List.{get_or-set_same, get_or-set_other, length-set}
use Rattle.msg_wire.specs.declared.message.Message.{Message}
use Rattle.member_hall.specs.Acts.{host_of}
use Rattle.member_hall.specs.Halls.{HallState, line_at, no_line}
use Rattle.member_hall.specs.Inside.{IsFit, live_count}
use Rattle.member_hall.specs.Lines.{LineState}
use Rattle.member_hall.specs.Requests.{Scene, handled_late, late_scene, request_by}
use Rattle.member_hall.specs.declared.act.Planned.{Planned}
use Rattle.member_hall.specs.declared.late.LateRequest.{LateRequest}
use Rattle.member_hall.specs.declared.place.Place.{Place}
use Rattle.member_hall.specs.declared.rule.Rule.{Rule}
use Rattle.member_hall.specs.declared.rule.Rule.TheVariants as rule

-- ---- how many are open

pub count-set : (lines : List LineState) (s : ℕ) (line : LineState) → line.live ≡ (line_at lines s).live → live_count (set lines s line) ≡ live_count lines
unfolding live_count
count-set [] s line same = refl
count-set (x ∷ xs) zero line same = ap (λ (b : Bool). cond b 1 0 + live_count xs) same
count-set (x ∷ xs) (suc s) line same = ap (λ (n : ℕ). cond x.live 1 0 + n) (count-set xs s line same)

-- ---- one that stays what it is of

-- It is of the same member, and as open.
pub record StaysOf (old new : LineState) : Type 0 where
  pub member : new.member ≡ old.member
  pub live : new.live ≡ old.live

pub members_set : (lines : List LineState) (s n : ℕ) (line : LineState) → s < length lines → line.member ≡ (line_at lines s).member → ((t : ℕ) → t < length lines → (line_at lines t).member < n)
    → (t : ℕ) → t < length (set lines s line) → (line_at (set lines s line) t).member < n
members_set lines s n line there same old t below = at (eqb t s) refl
  where
    many : length (set lines s line) ≡ length lines
    many = length-set lines s line

    at : (b : Bool) → eqb t s ≡ b → (line_at (set lines s line) t).member < n
    at true e =
        let is : line_at (set lines s line) t ≡ line = ap (line_at (set lines s line)) (eqb-true t s e) ∙ get_or-set_same lines s line no_line there in
        let mine = old s there in
        let own : (line_at (set lines s line) t).member ≡ (line_at lines s).member = ap (λ (l : LineState). l.member) is ∙ same in
        omega arith
    at false e =
        let is : line_at (set lines s line) t ≡ line_at lines t = get_or-set_other lines s t line no_line (eqb-false t s e) in
        let mine = old t (omega (arith, many)) in
        let own : (line_at (set lines s line) t).member ≡ (line_at lines t).member = ap (λ (l : LineState). l.member) is in
        omega arith

-- What a hall keeps where one stream stays of its member.
pub fit_line : (h new : HallState) (room more s : ℕ) (line : LineState) → IsFit h room → s < length h.lines → StaysOf (line_at h.lines s) line
    → new.lines ≡ set h.lines s line → length new.peers ≡ length h.peers → new.last ≡ h.last → new.plan ≡ h.plan → new.unserved ≡ h.unserved → room ≤ more → IsFit new more
fit_line h new room more s line fit there stays lines peers last plan unserved grows = record {
  few = let under = fit.few in omega arith;
  last = let under = fit.last in omega arith;
  members = λ t below.
      subst (λ (n : ℕ). (line_at new.lines t).member < n) (sym peers)
      (subst (λ (ls : List LineState). t < length ls → (line_at ls t).member < length h.peers) (sym lines) (members_set h.lines s (length h.peers) line there stays.member fit.members t) below);
  hosts = subst (λ (n : ℕ). All (λ (p : Planned). host_of p.act < n) new.plan) (sym peers) (subst (λ (l : List Planned). All (λ (p : Planned). host_of p.act < length h.peers) l) (sym plan) fit.hosts);
  unserved = λ t is.
      let many : length new.lines ≡ length h.lines = ap length lines ∙ length-set h.lines s line in
      let under = fit.unserved t (sym unserved ∙ is) in
      omega arith;
  kept =
      let same : live_count new.lines ≡ live_count h.lines = ap live_count lines ∙ count-set h.lines s line stays.live in
      let under = fit.kept in
      omega arith;
}

-- ---- requests

stays-self : (line : LineState) → StaysOf line line
stays-self line = record { member = refl; live = refl }

pub request-line : (at : Place) (message : Message) (s : Scene) (o : Option Rule) → StaysOf s.line (request_by o at message s).line
request-line at message s None = record { member = refl; live = refl }
request-line at message s (Some rule.Drop) = record { member = refl; live = refl }
request-line at message s (Some rule.Mute) = record { member = refl; live = refl }
request-line at message s (Some (rule.Late turns)) = record { member = refl; live = refl }
request-line at message s (Some (rule.Refuse code retryable no_writes)) = record { member = refl; live = refl }

pub late-line : (at : Place) (s : Scene) (o : Option LateRequest) → StaysOf s.line (late_scene o at s).line
late-line at s None = stays-self s.line
late-line at s (Some late) = elim (leb late.due at.turn) as (λ (b : Bool). StaysOf s.line (cond b (handled_late at late.message s) s).line) [
  | true ↦ record { member = refl; live = refl }
  | false ↦ stays-self s.line
]

-- A fact that holds of both answers.
pub by_both : {T E P : Type 0} (r : Result T E) → OnOk r P → OnErr r P → P
by_both (Ok x) p q = p
by_both (Err e) p q = q

-- Behind a call that either makes the line that, or leaves it.
pub stays_by : {T E : Type 0} (r : Result T E) (old new made : LineState) → StaysOf old made → OnOk r (new ≡ made) → OnErr r (new ≡ old) → StaysOf old new
stays_by r old new made stays ok err =
    by_both r
    (on_ok_weaker r (λ is. subst (λ (l : LineState). StaysOf old l) (sym is) stays) ok)
    (on_err_weaker r (λ is. subst (λ (l : LineState). StaysOf old l) (sym is) (stays-self old)) err)
