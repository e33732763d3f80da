use Rattle.std.proofs.Common.{◌∙◌, Bool, subst}
use Rattle.member_hall.specs.Turns.{ServesOn}
use Rattle.member_hall.proofs.Playing.{plays-trans}
use Rattle.member_hall.proofs.hall_core.HallCore.serve.Goals as goal

pub returns-in_err-serve_next-clause-plays : goal.returns-in_err-serve_next-clause-plays
returns-in_err-serve_next-clause-plays c = plays-trans c.serving.invariant.plays c.serve_next.ensures.plays

pub serving-preserved : goal.serving-preserved
serving-preserved c = record {
  served = subst (λ (b : Bool). ServesOn b c.args.stream c.serving.self c.serve_next.new.self) c.if-branch.true c.in_ok-serve_next.ensures.more ∙ c.serving.invariant.served;
  plays = plays-trans c.serving.invariant.plays c.serve_next.ensures.plays;
}

pub returns-clause-plays : goal.returns-clause-plays
returns-clause-plays c = plays-trans c.serving.invariant.plays c.serve_next.ensures.plays
