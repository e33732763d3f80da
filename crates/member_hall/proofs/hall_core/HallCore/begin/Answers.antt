use Rattle.std.proofs.Common.{◌≡◌, ◌<◌, ◌^◌, ◌∙◌, ℕ, ap, sym, subst, arith}
use Rattle.std.proofs.lemmas.Result.{on_ok_weaker}
use Rattle.net_link.specs.Causes.{next_count}
use Rattle.member_hall.specs.Halls.{HallState}
use Rattle.member_hall.specs.Inside.{hall_of}
use Rattle.member_hall.specs.Playing.{Plays}
use Rattle.member_hall.specs.Turns.{acted, begun, come_late, resumed, ticked}
use Rattle.member_hall.proofs.Playing.{plays-trans, plays_tick}
use Rattle.member_hall.proofs.hall_core.HallCore.begin.Goals as goal

-- The hall at the next turn.
at_turn : (h : HallState) (turn : ℕ) → turn ≡ next_count h.turn → record h { turn = turn } ≡ ticked h
at_turn h turn is = ap (λ (n : ℕ). record h { turn = n }) is

tick_plays : (h now : HallState) (turn : ℕ) → h ≡ now → h.turn < 2 ^ 64 → turn ≡ next_count h.turn → Plays now (record h { turn = turn })
tick_plays h now turn same small is =
    subst (λ (g : HallState). Plays g (record h { turn = turn })) same (subst (λ (g : HallState). Plays h g) (sym (at_turn h turn is)) (plays_tick h small))

pub returns-in_err-resume-clause-plays : goal.returns-in_err-resume-clause-plays
returns-in_err-resume-clause-plays c =
    plays-trans (tick_plays (hall_of c.self.inside) c.args.self.now c.saturating_add-self-inside.result c.self.view_is (omega arith) (omega (arith, c.saturating_add-self-inside.ensures))) c.resume.ensures.plays

pub returns-in_err-act-clause-plays : goal.returns-in_err-act-clause-plays
returns-in_err-act-clause-plays c =
    plays-trans (tick_plays (hall_of c.self.inside) c.args.self.now c.saturating_add-self-inside.result c.self.view_is (omega arith) (omega (arith, c.saturating_add-self-inside.ensures)))
    (plays-trans c.resume.ensures.plays c.act.ensures.plays)

pub returns-clause-ok : goal.returns-clause-ok
unfolding begun
returns-clause-ok c =
    let turn : hall_of c.self.inside ≡ c.args.self.now = c.self.view_is in
    let tick = at_turn (hall_of c.self.inside) c.saturating_add-self-inside.result (omega (arith, c.saturating_add-self-inside.ensures)) ∙ ap ticked turn in
    let before : c.act.new.self ≡ acted (resumed (ticked c.args.self.now)) = c.in_ok-act.ensures.ok ∙ ap acted (c.in_ok-resume.ensures.ok ∙ ap resumed tick) in
    on_ok_weaker c.handle_late_requests.result (λ is. is ∙ ap come_late before) c.handle_late_requests.ensures.ok

pub returns-clause-plays : goal.returns-clause-plays
returns-clause-plays c =
    plays-trans (tick_plays (hall_of c.self.inside) c.args.self.now c.saturating_add-self-inside.result c.self.view_is (omega arith) (omega (arith, c.saturating_add-self-inside.ensures)))
    (plays-trans c.resume.ensures.plays (plays-trans c.act.ensures.plays c.handle_late_requests.ensures.plays))
