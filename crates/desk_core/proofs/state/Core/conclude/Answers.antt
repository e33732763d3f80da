use Rattle.desk_core.proofs.GoingLemmas.{HasGone-none}
use Rattle.desk_core.proofs.state.Core.conclude.Goals as goal

pub returns-in-Select-clause-gone : goal.returns-in-Select-clause-gone
returns-in-Select-clause-gone g c = HasGone-none c.args.self.now c.args.at.moment c.args.at.op c.args.operation.now c.args.sessions.now c.requires.step
