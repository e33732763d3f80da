use Rattle.shell_top.proofs.ListenerLemmas.{listeners-told}
use Rattle.shell_top.proofs.running.open.Goals as goal

pub returns-in-Ok-clause-listeners : goal.returns-in-Ok-clause-listeners
returns-in-Ok-clause-listeners g c =
    listeners-told g.L.Listener.heard g.L.Listener.leaves c.all_are_counted.ensures _ c.args.given.hooks c.in-Ok.desk.hooks c.in-Ok.ensures.heard
