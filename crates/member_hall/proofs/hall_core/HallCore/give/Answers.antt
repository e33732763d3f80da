use Rattle.member_hall.proofs.Lates.{late_same}
use Rattle.std.proofs.Common.{◌≡◌, ◌<◌, ◌∙◌, ap, sym, subst, length, refl, arith}
use Rattle.std.specs.List.{slice_set}
use Rattle.net_link.specs.Told.{Told}
use Rattle.member_hall.specs.Halls.{HallState, line_at}
use Rattle.member_hall.specs.Inside.{hall_of}
use Rattle.member_hall.specs.Lines.{LineState, give_line}
use Rattle.member_hall.proofs.Lines.{fit_line}
use Rattle.member_hall.proofs.Scenes.{line_read}
use Rattle.member_hall.proofs.hall_core.HallCore.give.Goals as goal

pub invariant_of-self-2 : goal.invariant_of-self-2
invariant_of-self-2 c =
    let h = hall_of c.self.inside in
    let there : c.args.stream < length h.lines = subst (λ (g : HallState). c.args.stream < length g.lines) (sym c.self.view_is) c.requires.stream in
    let was = line_read h c.args.stream c.index_mut-line.result.now there c.index_mut-line.ensures.value in
    let line : c.give.new.self ≡ give_line c.args.count (line_at h.lines c.args.stream) = c.give.ensures ∙ ap (give_line c.args.count) was in
    let kept = ap (λ (l : Told). l.kept) c.in_ok-note.ensures.ok in
    record {
      fit =
          fit_line h (record h { lines = slice_set h.lines c.args.stream c.give.new.self; events = c.note.new.self.events }) c.self.inside.log.kept c.note.new.self.kept c.args.stream c.give.new.self c.self.invariant.fit there
          (record { member = ap (λ (l : LineState). l.member) line; live = ap (λ (l : LineState). l.live) line }) refl refl refl refl refl (omega (arith, kept));
      shares = c.self.invariant.shares;
      late = late_same c.self.inside.late.items h.lines c.args.stream c.give.new.self c.self.invariant.late there (ap (λ (l : LineState). l.late) line);
    }
