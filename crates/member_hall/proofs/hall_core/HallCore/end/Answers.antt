use Rattle.member_hall.proofs.Lates.{late_same}
use Rattle.std.proofs.Common.{◌≡◌, ◌<◌, ◌∙◌, ap, sym, subst, length, refl, arith, false}
use Rattle.member_hall.specs.Halls.{HallState, line_at, with_line}
use Rattle.member_hall.specs.Inside.{hall_of}
use Rattle.member_hall.specs.Lines.{LineState, end_line}
use Rattle.member_hall.specs.Playing.{Plays}
use Rattle.member_hall.specs.Turns.{end_on}
use Rattle.member_hall.proofs.Lines.{fit_line}
use Rattle.member_hall.proofs.Playing.{plays_end}
use Rattle.member_hall.proofs.Scenes.{line_read}
use Rattle.member_hall.proofs.hall_core.HallCore.end.Goals as goal

pub invariant_of-self : goal.invariant_of-self
invariant_of-self c =
    let h = hall_of c.self.inside in
    let there : c.args.stream < length h.lines = subst (λ (g : HallState). c.args.stream < length g.lines) (sym c.self.view_is) c.requires.stream in
    let was = line_read h c.args.stream c.index_mut-line.result.now there c.index_mut-line.ensures.value in
    let ended : c.end.new.self ≡ end_line h.turn (line_at h.lines c.args.stream) = c.end.ensures ∙ ap (end_line h.turn) was in
    record {
      fit =
          fit_line h (with_line c.args.stream c.end.new.self h) c.self.inside.log.kept c.self.inside.log.kept c.args.stream c.end.new.self c.self.invariant.fit there
          (record { member = ap (λ (l : LineState). l.member) ended; live = ap (λ (l : LineState). l.live) ended }) refl refl refl refl refl (omega arith);
      shares = c.self.invariant.shares;
      late = late_same c.self.inside.late.items h.lines c.args.stream c.end.new.self c.self.invariant.late there (ap (λ (l : LineState). l.late) ended);
    }

pub returns-clause-ended : goal.returns-clause-ended
unfolding end_on
returns-clause-ended c =
    let h = hall_of c.self.inside in
    let there : c.args.stream < length h.lines = subst (λ (g : HallState). c.args.stream < length g.lines) (sym c.self.view_is) c.requires.stream in
    let was = line_read h c.args.stream c.index_mut-line.result.now there c.index_mut-line.ensures.value in
    let ended : c.end.new.self ≡ end_line h.turn (line_at h.lines c.args.stream) = c.end.ensures ∙ ap (end_line h.turn) was in
    rw (← c.self.view_is) (ap (λ (l : LineState). with_line c.args.stream l h) ended)

pub returns-clause-plays : goal.returns-clause-plays
unfolding end_on
returns-clause-plays c =
    let h = hall_of c.self.inside in
    let there : c.args.stream < length h.lines = subst (λ (g : HallState). c.args.stream < length g.lines) (sym c.self.view_is) c.requires.stream in
    let goes_on : (line_at h.lines c.args.stream).ended ≡ false = subst (λ (g : HallState). (line_at g.lines c.args.stream).ended ≡ false) (sym c.self.view_is) c.requires.goes_on in
    let was = line_read h c.args.stream c.index_mut-line.result.now there c.index_mut-line.ensures.value in
    let ended : c.end.new.self ≡ end_line h.turn (line_at h.lines c.args.stream) = c.end.ensures ∙ ap (end_line h.turn) was in
    rw (← c.self.view_is) (subst (λ (g : HallState). Plays h g) (sym (ap (λ (l : LineState). with_line c.args.stream l h) ended)) (plays_end h c.args.stream there goes_on))
