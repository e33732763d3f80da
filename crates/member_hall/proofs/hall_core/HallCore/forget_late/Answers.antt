use Rattle.std.proofs.Common.{◌≡◌, ℕ, None, not, eqb, rules, sym, subst}
use Rattle.std.proofs.lemmas.Fn.{filter_same}
use Rattle.member_hall.specs.Halls.{HallState, line_at}
use Rattle.member_hall.specs.Inside.{hall_of}
use Rattle.member_hall.proofs.Lates.{late_forgotten}
use Rattle.member_hall.proofs.hall_core.HallCore.forget_late.Goals as goal

pub invariant_of-self : goal.invariant_of-self
invariant_of-self c =
    let h = hall_of c.self.inside in
    let none : (line_at h.lines c.args.stream).late ≡ None = subst (λ (g : HallState). (line_at g.lines c.args.stream).late ≡ None) (sym c.self.view_is) c.requires in
    let kept = filter_same _ (λ (t : ℕ). not (eqb t c.args.stream)) _ (λ x b f' k. search rules) _ _ c.retain.ensures.filtered in record {
      fit = c.self.invariant.fit;
      shares = c.self.invariant.shares;
      late = late_forgotten c.self.inside.late.items c.retain.new.self.items h.lines c.args.stream c.self.invariant.late none kept;
    }
