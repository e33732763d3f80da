use Rattle.drv_events.proofs.RunLemmas.{all-counted}
use Rattle.drv_events.proofs.laws.all_are_counted.Goals as goal

pub returns : goal.returns
returns g c = all-counted _ _
