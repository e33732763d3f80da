use Rattle.member_hall.proofs.Lates.{late_same}
use Rattle.std.proofs.Common.{◌∙◌, ap, sym, subst, arith}
use Rattle.member_hall.specs.Halls.{HallState, IsLive}
use Rattle.member_hall.specs.Inside.{hall_of}
use Rattle.member_hall.specs.Lines.{LineState, shut_line}
use Rattle.member_hall.specs.Streams.{IsLive-below}
use Rattle.member_hall.proofs.Fits.{count_positive, fit_close}
use Rattle.member_hall.proofs.Scenes.{line_read}
use Rattle.member_hall.proofs.hall_core.HallCore.close.Goals as goal

pub note_kept-requires : goal.note_kept-requires
note_kept-requires c =
    let h = hall_of c.self.inside in
    let live : IsLive h.lines c.args.stream = subst (λ (g : HallState). IsLive g.lines c.args.stream) (sym c.self.view_is) c.requires in
    omega (arith, count_positive h.lines c.args.stream live, c.self.invariant.fit.kept)

pub index_mut-line-requires : goal.index_mut-line-requires
index_mut-line-requires c =
    let h = hall_of c.self.inside in
    let live : IsLive h.lines c.args.stream = subst (λ (g : HallState). IsLive g.lines c.args.stream) (sym c.self.view_is) c.requires in
    omega (arith, IsLive-below h.lines c.args.stream live, c.self.inside.lines.ok.0)

pub invariant_of-self : goal.invariant_of-self
invariant_of-self c =
    let h = hall_of c.self.inside in
    let live : IsLive h.lines c.args.stream = subst (λ (g : HallState). IsLive g.lines c.args.stream) (sym c.self.view_is) c.requires in
    let was = line_read h c.args.stream c.index_mut-line.result.now (IsLive-below h.lines c.args.stream live) c.index_mut-line.ensures.value in
    let shut = c.shut.ensures ∙ ap shut_line was in
    record {
      fit =
          fit_close h c.note_kept.new.self.events c.shut.new.self c.self.inside.log.kept c.note_kept.new.self.kept c.args.stream c.self.invariant.fit live shut c.note_kept.ensures.kept;
      shares = c.self.invariant.shares;
      late = late_same c.self.inside.late.items h.lines c.args.stream c.shut.new.self c.self.invariant.late (IsLive-below h.lines c.args.stream live) (ap (λ (l : LineState). l.late) shut);
    }
