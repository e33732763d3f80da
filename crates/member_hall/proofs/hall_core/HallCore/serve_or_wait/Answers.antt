use Rattle.std.proofs.Common.{Some, sym, subst}
use Rattle.member_hall.specs.Halls.{HallState}
use Rattle.member_hall.specs.Inside.{hall_of}
use Rattle.member_hall.specs.Playing.{Plays}
use Rattle.member_hall.proofs.Playing.{plays-trans, plays_same}
use Rattle.member_hall.proofs.hall_core.HallCore.serve_or_wait.Goals as goal

pub returns-then-is_err-clause-plays : goal.returns-then-is_err-clause-plays
returns-then-is_err-clause-plays c =
    let h = hall_of c.self.inside in
    plays-trans (subst (λ (g : HallState). Plays c.args.self.now g) (sym c.self.view_is) c.serve.ensures.plays) (plays_same h h.plan (Some c.args.stream))
