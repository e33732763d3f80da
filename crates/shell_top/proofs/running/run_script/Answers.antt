use Rattle.shell_top.proofs.RunLemmas.{runs-so}
use Rattle.shell_top.proofs.ScriptLemmas.{script-read, script-refused, tells-ok}
use Rattle.shell_top.proofs.running.run_script.Goals as goal

pub returns-in-Ok-clause-script : goal.returns-in-Ok-clause-script
returns-in-Ok-clause-script g c =
    script-read g.S.Source.left g.S.Source.faults _ _ c.in-Ok.commands _ c.in-Ok.ensures.reads c.in-Ok.ensures.cause.later c.run_commands.ensures.reached

pub returns-in-Ok-clause-runs : goal.returns-in-Ok-clause-runs
returns-in-Ok-clause-runs g c =
    λ reached. runs-so _ _ _ c.in-Ok.commands g.C.Clock.shows g.D.Dice.rolls g.N.Net.faults g.L.Listener.heard _ _ _ _ g.K.Sink.written _ _ _ _ (tells-ok _ _ c.in-Ok.commands c.in-Ok.ensures.reads) c.run_commands.ensures.runs

pub returns-in-Err-Fault-clause-script : goal.returns-in-Err-Fault-clause-script
returns-in-Err-Fault-clause-script g c =
    script-refused g.S.Source.left g.S.Source.faults _ _ c.in-Err-Fault.fault c.before_all.result.status (rw c.in-Err-Fault.field-0-is at c.in-Err-Fault.ensures.reads) c.in-Err-Fault.ensures.cause.later
    (rw c.in-Err-Fault.field-0-is at c.before_all.ensures.status)
