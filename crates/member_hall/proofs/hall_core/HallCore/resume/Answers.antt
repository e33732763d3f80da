use Rattle.std.proofs.Common.{◌≡◌, ◌∙◌, Option, None, Some, ℕ, ap, sym, subst}
use Rattle.member_hall.specs.Halls.{HallState}
use Rattle.member_hall.specs.Inside.{hall_of}
use Rattle.member_hall.specs.Playing.{Plays}
use Rattle.member_hall.specs.Turns.{resumed, resumed_by, served}
use Rattle.member_hall.proofs.Playing.{plays-trans, plays_same}
use Rattle.member_hall.proofs.hall_core.HallCore.resume.Goals as goal

pub returns-in_ok-serve-clause-ok : goal.returns-in_ok-serve-clause-ok
unfolding resumed
returns-in_ok-serve-clause-ok c =
    let behind : hall_of c.self-in-Some.inside ≡ served c.in-Some.stream c.args.self.now = c.self-in-Some.view_is ∙ c.in_ok-serve.ensures.ok in
    let waits : c.args.self.now.unserved ≡ Some c.in-Some.stream = ap (λ (g : HallState). g.unserved) (sym c.self.view_is) ∙ c.in-Some.is in
    ap (λ (g : HallState). record g { unserved = None }) behind ∙ ap (λ (o : Option ℕ). resumed_by o c.args.self.now) (sym waits)

pub returns-in_ok-serve-clause-plays : goal.returns-in_ok-serve-clause-plays
returns-in_ok-serve-clause-plays c =
    let h = hall_of c.self-in-Some.inside in
    plays-trans (subst (λ (g : HallState). Plays c.args.self.now g) (sym c.self-in-Some.view_is) c.serve.ensures.plays) (plays_same h h.plan None)

pub returns-in_default-clause-ok : goal.returns-in_default-clause-ok
unfolding resumed
returns-in_default-clause-ok c =
    let waits : c.args.self.now.unserved ≡ None = ap (λ (g : HallState). g.unserved) (sym c.self.view_is) ∙ none_in c.self.inside.unserved c.in_default.not-Some in
    ap (λ (o : Option ℕ). resumed_by o c.args.self.now) (sym waits)
  where
    none_in : (o : Option ℕ) → ((s : ℕ) → o ≡ Some s → ⊥) → o ≡ None
    none_in None other = cc
    none_in (Some s) other = let one : Some s ≡ Some s = cc in absurd (other s one)
