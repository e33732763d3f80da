use Rattle.desk_core.proofs.AppendsLemmas.{grown-plain, grown-trans}
use Rattle.desk_core.proofs.state.Core.fail_dialled.Goals as goal

pub returns-in_err-offer_loss-clause-appends : goal.returns-in_err-offer_loss-clause-appends
returns-in_err-offer_loss-clause-appends g c =
    grown-trans c.args.at.moment c.args.self.now.trail c.lose_dialled.new.self.trail c.offer_loss.new.self.trail c.lose_dialled.ensures.appends
    (grown-plain c.args.at.moment c.args.at.op c.lose_dialled.new.self.trail c.offer_loss.new.self.trail c.offer_loss.ensures.appends)

pub returns-clause-appends : goal.returns-clause-appends
returns-clause-appends g c =
    grown-trans c.args.at.moment c.args.self.now.trail c.lose_dialled.new.self.trail c.offer_loss.new.self.trail c.lose_dialled.ensures.appends
    (grown-plain c.args.at.moment c.args.at.op c.lose_dialled.new.self.trail c.offer_loss.new.self.trail c.offer_loss.ensures.appends)
