-- What a hall keeps behind a stream that is opened and one that is closed.
use Rattle.std.proofs.Common.{◌≡◌, ◌<◌, ◌≤◌, ◌+◌, ℕ, zero, suc, Bool, List, [], ◌∷◌, ◌++◌, true, false, cond, eqb, length, set, take, drop, refl, sym, ap, ◌∙◌, arith, subst}
use Rattle.std.specs.List.{All, remove}
use Rattle.std.proofs.lemmas.Bool.{eqb-true, eqb-false}
use Rattle.std.proofs.lemmas.List.{get_or_append_left, get_or_push, length-set, length_push}
use Rattle.std.proofs.lemmas.List.Elements.{All-append, All-drop, All-take}
use Rattle.net_link.specs.declared.event.NetEvent.{NetEvent}
use Rattle.member_hall.specs.Acts.{host_of}
use Rattle.member_hall.specs.Halls.{HallState, IsLive, line_at, no_line}
use Rattle.member_hall.specs.Inside.{IsFit, live_count}
use Rattle.member_hall.specs.Lines.{LineState, new_line, shut_line}
use Rattle.member_hall.specs.Streams.{IsLive-below}
use Rattle.member_hall.specs.declared.act.Planned.{Planned}
use Rattle.member_hall.proofs.Lines.{members_set}

-- ---- one more stream

count-push : (lines : List LineState) (line : LineState) → live_count (lines ++ line ∷ []) ≤ live_count lines + 1
unfolding live_count
count-push [] line = elim line.live as (λ (b : Bool). cond b 1 0 + 0 ≤ 1) [ true ↦ omega arith | false ↦ omega arith ]
count-push (x ∷ xs) line = omega (arith, count-push xs line)

members_push : (lines : List LineState) (line : LineState) (n : ℕ) → line.member < n → ((t : ℕ) → t < length lines → (line_at lines t).member < n)
    → (t : ℕ) (b : Bool) → eqb t (length lines) ≡ b → t < length (lines ++ line ∷ []) → (line_at (lines ++ line ∷ []) t).member < n
members_push lines line n mine old t true e below =
    let is : line_at (lines ++ line ∷ []) t ≡ line = ap (line_at (lines ++ line ∷ [])) (eqb-true t (length lines) e) ∙ get_or_push lines line no_line (length lines) refl in
    subst (λ (l : LineState). l.member < n) (sym is) mine
members_push lines line n mine old t false e below =
    let apart = eqb-false t (length lines) e in
    let under : t < length lines = omega (arith, length_push lines line) in
    subst (λ (l : LineState). l.member < n) (sym (get_or_append_left lines (line ∷ []) no_line t under)) (old t under)

pub fit_open : (h new : HallState) (room more m : ℕ) → IsFit h room → m < length h.peers → new.lines ≡ h.lines ++ new_line m ∷ [] → new.peers ≡ h.peers → new.last ≡ h.last → new.plan ≡ h.plan → new.unserved ≡ h.unserved → more ≡ room + 1 → IsFit new more
fit_open h new room more m fit there lines peers last plan unserved grows =
    subst (λ (n : ℕ). IsFit new n) (sym grows)
    (subst (λ (g : HallState). IsFit g (room + 1)) (λ i. record new { lines = sym lines i; peers = sym peers i; last = sym last i; plan = sym plan i; unserved = sym unserved i })
    (record {
      few = fit.few;
      last = fit.last;
      members = λ t. members_push h.lines (new_line m) (length h.peers) there fit.members t (eqb t (length h.lines)) refl;
      hosts = fit.hosts;
      unserved = λ t is. let under = fit.unserved t is in omega (arith, length_push h.lines (new_line m));
      kept = let under = fit.kept in omega (arith, count-push h.lines (new_line m));
    }))

-- ---- other logs of the members

pub fit_peers : (h new : HallState) (room more : ℕ) → IsFit h room → length new.peers ≡ length h.peers → new.last < length h.peers → new.lines ≡ h.lines → new.plan ≡ h.plan → new.unserved ≡ h.unserved → room ≤ more → IsFit new more
fit_peers h new room more fit peers last lines plan unserved grows = record {
  few = let under = fit.few in omega arith;
  last = omega arith;
  members = λ s below.
      subst (λ (n : ℕ). (line_at new.lines s).member < n) (sym peers)
      (subst (λ (ls : List LineState). s < length ls → (line_at ls s).member < length h.peers) (sym lines) (fit.members s) below);
  hosts = subst (λ (n : ℕ). All (λ (p : Planned). host_of p.act < n) new.plan) (sym peers) (subst (λ (l : List Planned). All (λ (p : Planned). host_of p.act < length h.peers) l) (sym plan) fit.hosts);
  unserved = λ s is. let under = fit.unserved s (sym unserved ∙ is) in let many : length new.lines ≡ length h.lines = ap length lines in omega arith;
  kept = let under = fit.kept in let same : live_count new.lines ≡ live_count h.lines = ap live_count lines in omega arith;
}

-- ---- one act less

pub hosts-remove : (n : ℕ) (plan : List Planned) (place : ℕ) → All (λ (p : Planned). host_of p.act < n) plan → All (λ (p : Planned). host_of p.act < n) (remove plan place)
hosts-remove n plan place all =
    All-append (λ (p : Planned). host_of p.act < n) (take place plan) (drop (suc place) plan) (All-take (λ (p : Planned). host_of p.act < n) place plan all) (All-drop (λ (p : Planned). host_of p.act < n) (suc place) plan all)

-- ---- one less

pub count-shut : (lines : List LineState) (s : ℕ) → IsLive lines s → live_count (set lines s (shut_line (line_at lines s))) + 1 ≡ live_count lines
unfolding live_count IsLive
count-shut [] s live = absurd (let e : false ≡ true = live in let never : ⊥ = cc in never)
count-shut (x ∷ xs) zero live = rw live (omega arith)
count-shut (x ∷ xs) (suc s) live = omega (arith, count-shut xs s live)

pub count_positive : (lines : List LineState) (s : ℕ) → IsLive lines s → 0 < live_count lines
count_positive lines s live = omega (arith, count-shut lines s live)

pub fit_close : (h : HallState) (events : List NetEvent) (line : LineState) (room more s : ℕ) → IsFit h room → IsLive h.lines s → line ≡ shut_line (line_at h.lines s) → more + 1 ≡ room
    → IsFit (record h { lines = set h.lines s line; events = events }) more
fit_close h events line room more s fit live is less =
    subst (λ (l : LineState). IsFit (record h { lines = set h.lines s l; events = events }) more) (sym is)
    (record {
      few = fit.few;
      last = fit.last;
      members = members_set h.lines s (length h.peers) (shut_line (line_at h.lines s)) (IsLive-below h.lines s live) refl fit.members;
      hosts = fit.hosts;
      unserved = λ t same. let under = fit.unserved t same in omega (arith, length-set h.lines s (shut_line (line_at h.lines s)));
      kept = let under = fit.kept in omega (arith, count-shut h.lines s live);
    })

-- ---- a number that no dial gave

pub none_live : (lines : List LineState) (s : ℕ) → length lines ≤ s → (line_at lines s).live ≡ false
none_live [] s beyond = refl
none_live (x ∷ xs) zero beyond = absurd (omega arith)
none_live (x ∷ xs) (suc s) beyond = none_live xs s (omega arith)
