use Rattle.desk_core.proofs.AnsweredLooks.{aside-two}
use Rattle.desk_core.proofs.state.Core.read_check.Goals as goal

pub returns-in-Wait-clause-appends : goal.returns-in-Wait-clause-appends
returns-in-Wait-clause-appends g c =
    aside-two c.args.moment (g.N.Net.faults c.args.self.now.net) (g.N.Net.faults c.check.new.self.net) (g.N.Net.faults c.note_dry.new.self.net) c.args.self.now.trail
    c.check.new.self.trail c.note_dry.new.self.trail c.note_dry.ensures.faults c.check.ensures.appends c.note_dry.ensures.appends
