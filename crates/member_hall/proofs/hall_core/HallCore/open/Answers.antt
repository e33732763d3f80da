use Rattle.member_hall.proofs.Lates.{late_open}
use Rattle.std.proofs.Common.{◌≡◌, ◌<◌, ◌∷◌, ◌++◌, [], ◌∙◌, ap, sym, subst, length, refl, arith}
use Rattle.net_link.specs.Told.{Told}
use Rattle.member_hall.specs.Halls.{HallState}
use Rattle.member_hall.specs.Inside.{HaveLate, hall_of}
use Rattle.member_hall.specs.Lines.{new_line}
use Rattle.member_hall.proofs.Fits.{fit_open}
use Rattle.member_hall.proofs.hall_core.HallCore.open.Goals as goal

pub invariant_of-self-2 : goal.invariant_of-self-2
invariant_of-self-2 c =
    let h = hall_of c.self.inside in
    let there : c.args.member < length h.peers = subst (λ (g : HallState). c.args.member < length g.peers) (sym c.self.view_is) c.requires in
    let lines : c.push_reserved.new.self.items ≡ h.lines ++ new_line c.args.member ∷ [] =
    c.push_reserved.ensures.items ∙ (λ i. c.in_ok-reserve.ensures.items i ++ c.new.ensures i ∷ []) in
    let kept = ap (λ (l : Told). l.kept) c.in_ok-keep.ensures.ok in
    record {
      fit =
          fit_open h (record h { lines = c.push_reserved.new.self.items; events = c.note_kept.new.self.events }) c.self.inside.log.kept c.note_kept.new.self.kept c.args.member c.self.invariant.fit there
          lines refl refl refl refl (omega (arith, kept, c.note_kept.ensures.kept));
      shares = c.self.invariant.shares;
      late = subst (HaveLate c.self.inside.late.items) (sym lines) (late_open c.self.inside.late.items h.lines (new_line c.args.member) c.self.invariant.late refl);
    }
