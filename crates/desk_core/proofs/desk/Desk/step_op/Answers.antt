use Rattle.std.proofs.Common.{ap, subst}
use Rattle.std.specs.Prelude.{IfOk, OnOk}
use Rattle.legal_trail.specs.Recorded.{Recorded}
use Rattle.desk_core.specs.Picks.{AsksPicker}
use Rattle.desk_core.specs.State.{now_of}
use Rattle.desk_core.specs.Steps.{MeansStep}
use Rattle.desk_core.proofs.desk.Desk.step_op.Goals as goal

pub returns-else-is_err-clause-sight : goal.returns-else-is_err-clause-sight
returns-else-is_err-clause-sight g c =
    let new = c.step-sight.new.self.trail in
    let same = ap (λ s. s.trail) c.tick-now.ensures.same in
    rw (← c.self.view_is)
    (subst (λ (t : Recorded). IfOk c.step-sight.result (MeansStep (now_of c.self.inside.core.last c.args.moment) c.args.op c.args.words t new)) same
    (subst (λ m. IfOk c.step-sight.result (MeansStep m c.args.op c.args.words c.tick-now.new.self.trail new)) c.tick-now.ensures.now c.step-sight.ensures.sight))

pub returns-else-is_err-clause-asks : goal.returns-else-is_err-clause-asks
returns-else-is_err-clause-asks g c =
    let new = c.step-sight.new.self.trail in
    let p = c.self.inside.parts.picker in
    let q = c.step-sight.new.parts.picker in
    let same = ap (λ s. s.trail) c.tick-now.ensures.same in
    rw (← c.self.view_is)
    (subst (λ (t : Recorded). OnOk c.step-sight.result (AsksPicker g.P.Picker.allows g.P.Picker.follows (now_of c.self.inside.core.last c.args.moment) c.args.op t new p q)) same
    (subst (λ m. OnOk c.step-sight.result (AsksPicker g.P.Picker.allows g.P.Picker.follows m c.args.op c.tick-now.new.self.trail new p q)) c.tick-now.ensures.now c.step-sight.ensures.asks))
