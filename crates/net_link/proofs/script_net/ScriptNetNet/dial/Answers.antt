use Rattle.std.proofs.Common.{◌<◌, ap, length, arith}
use Rattle.std.proofs.lemmas.Grind.{common_steps}
use Rattle.net_link.proofs.ScriptLemmas.{IsNewStream-dial, Keeps-dial}
use Rattle.net_link.proofs.script_net.ScriptNetNet.dial.Goals as goal

pub returns-clause-keeps : goal.returns-clause-keeps
returns-clause-keeps c = rw c.open.ensures.state (Keeps-dial c.in-Ok.address c.open.result c.args.self.now)

pub returns-clause-stream : goal.returns-clause-stream
returns-clause-stream c =
    let some : 0 < length c.args.self.now.plans = rw (← ap (λ s. s.plans) c.self.view_is) (grind (arith, common_steps)) in
    rw c.open.ensures.state (IsNewStream-dial c.in-Ok.address c.open.result c.args.self.now some c.open.ensures.number)
