use Rattle.member_hall.proofs.Lates.{late_same}
use Rattle.std.proofs.Common.{◌<◌, ◌∙◌, ap, sym, subst, length, refl, arith}
use Rattle.std.specs.List.{slice_set}
use Rattle.net_link.specs.Told.{Told}
use Rattle.member_hall.specs.Halls.{HallState}
use Rattle.member_hall.specs.Inside.{hall_of}
use Rattle.member_hall.specs.Lines.{LineState}
use Rattle.member_hall.proofs.Lines.{fit_line}
use Rattle.member_hall.proofs.Scenes.{line_read}
use Rattle.member_hall.proofs.hall_core.HallCore.take.Goals as goal

pub invariant_of-self-2 : goal.invariant_of-self-2
invariant_of-self-2 c =
    let h = hall_of c.self.inside in
    let there : c.args.stream < length h.lines = subst (λ (g : HallState). c.args.stream < length g.lines) (sym c.self.view_is) c.requires in
    let was = c.line.view_is ∙ line_read h c.args.stream c.index_mut-line.result.now there c.index_mut-line.ensures.value in
    let member = ap (λ (l : LineState). l.member) was in
    let live = ap (λ (l : LineState). l.live) was in
    let line : LineState = record {
      member = c.line.inside.member;
      count = c.line.inside.count;
      rest = c.extend.new.self;
      answers = c.line.inside.answers.items;
      late = c.line.inside.late;
      ended = c.line.inside.ended;
      live = c.line.inside.live;
    } in
    let kept = ap (λ (l : Told). l.kept) c.in_ok-keep.ensures.ok in
    record {
      fit =
          fit_line h (record h { lines = slice_set h.lines c.args.stream line; events = c.note_kept.new.self.events }) c.self.inside.log.kept c.note_kept.new.self.kept c.args.stream line c.self.invariant.fit there
          (record { member = member; live = live }) refl refl refl refl refl (omega (arith, kept, c.note_kept.ensures.kept));
      shares = c.self.invariant.shares;
      late = late_same c.self.inside.late.items h.lines c.args.stream line c.self.invariant.late there (ap (λ (l : LineState). l.late) was);
    }
