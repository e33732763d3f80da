use Rattle.desk_core.proofs.GoingLemmas.{Appends-then, MovesOne-then}
use Rattle.desk_core.proofs.OfferLemmas.{OnOk-by}
use Rattle.desk_core.proofs.state.Core.connect.Goals as goal

pub returns-then-eq-clause-moves : goal.returns-then-eq-clause-moves
returns-then-eq-clause-moves g c =
    OnOk-by c.drive_greeting.result _ _ (λ m. MovesOne-then c.args.at.op _ _ c.args.self.now.trail c.leave_line.new.self.trail c.drive_greeting.new.self.trail c.in_ok-answer.ensures.moves m)
    c.drive_greeting.ensures.moves

pub returns-then-eq-clause-appends : goal.returns-then-eq-clause-appends
returns-then-eq-clause-appends g c =
    Appends-then _ _ _ c.args.at.moment c.args.self.now.trail c.leave_line.new.self.trail c.drive_greeting.new.self.trail c.leave_line.ensures.faults c.drive_greeting.ensures.faults
    c.leave_line.ensures.appends c.drive_greeting.ensures.appends
