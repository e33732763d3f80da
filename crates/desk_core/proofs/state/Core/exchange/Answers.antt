use Rattle.desk_core.proofs.GoingLemmas.{Appends-then, MovesOne-then}
use Rattle.desk_core.proofs.OfferLemmas.{OnOk-by}
use Rattle.desk_core.proofs.state.Core.exchange.Goals as goal

pub returns-clause-moves : goal.returns-clause-moves
returns-clause-moves g c =
    OnOk-by c.reply.result _ _ (λ m. MovesOne-then c.args.at.op _ _ c.args.self.now.trail c.request.new.self.trail c.reply.new.self.trail c.in_ok-request.ensures.moves m)
    c.reply.ensures.moves

pub returns-clause-appends : goal.returns-clause-appends
returns-clause-appends g c =
    Appends-then _ _ _ c.args.at.moment c.args.self.now.trail c.request.new.self.trail c.reply.new.self.trail c.request.ensures.faults c.reply.ensures.faults
    c.request.ensures.appends c.reply.ensures.appends
