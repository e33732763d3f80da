use Rattle.drv_events.proofs.RunLemmas.{each-heard}
use Rattle.drv_events.proofs.laws.each_heard_what_was_told_since.Goals as goal

pub returns : goal.returns
returns g c = each-heard _ _
