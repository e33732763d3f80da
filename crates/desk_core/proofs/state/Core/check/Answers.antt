use Rattle.desk_core.proofs.AppendsLemmas.{Appends-rose}
use Rattle.desk_core.proofs.state.Core.check.Goals as goal

pub returns-in_err-until-2-clause-appends : goal.returns-in_err-until-2-clause-appends
returns-in_err-until-2-clause-appends g c =
    Appends-rose _ _ _ c.args.moment c.args.self.now.trail c.check_once.new.self.trail c.check_once-2.new.self.trail c.check_once.ensures.faults c.check_once-2.ensures.faults
    c.check_once.ensures.appends c.check_once-2.ensures.appends

pub returns-in-Some-2-clause-appends : goal.returns-in-Some-2-clause-appends
returns-in-Some-2-clause-appends g c =
    Appends-rose _ _ _ c.args.moment c.args.self.now.trail c.check_once.new.self.trail c.check_once-2.new.self.trail c.check_once.ensures.faults c.check_once-2.ensures.faults
    c.check_once.ensures.appends c.check_once-2.ensures.appends

pub returns-clause-appends : goal.returns-clause-appends
returns-clause-appends g c =
    Appends-rose _ _ _ c.args.moment c.args.self.now.trail c.check_once.new.self.trail c.check_once-2.new.self.trail c.check_once.ensures.faults c.check_once-2.ensures.faults
    c.check_once.ensures.appends c.check_once-2.ensures.appends
