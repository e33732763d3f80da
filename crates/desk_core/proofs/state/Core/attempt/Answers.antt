use Rattle.desk_core.proofs.GoingLemmas.{Appends-then, MovesOne-then}
use Rattle.desk_core.proofs.OfferLemmas.{OnOk-by}
use Rattle.desk_core.proofs.state.Core.attempt.Goals as goal

pub returns-then-eq-clause-moves : goal.returns-then-eq-clause-moves
returns-then-eq-clause-moves g c =
    OnOk-by c.exchange.result _ _ (λ m. MovesOne-then c.args.at.op _ _ c.args.self.now.trail c.connect.new.self.trail c.exchange.new.self.trail c.in_ok-connected.ensures.moves m)
    c.exchange.ensures.moves

pub returns-then-eq-clause-appends : goal.returns-then-eq-clause-appends
returns-then-eq-clause-appends g c =
    Appends-then _ _ _ c.args.at.moment c.args.self.now.trail c.connect.new.self.trail c.exchange.new.self.trail c.connect.ensures.faults c.exchange.ensures.faults
    c.connect.ensures.appends c.exchange.ensures.appends
