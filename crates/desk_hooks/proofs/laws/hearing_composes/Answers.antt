use Rattle.desk_hooks.proofs.HearingLemmas.{HearMore-trans}
use Rattle.desk_hooks.proofs.laws.hearing_composes.Goals as goal

pub returns : goal.returns
returns g c a b d x y z = HearMore-trans g.L.Listener.heard g.L.Listener.leaves a b d x y z
