use Rattle.desk_hooks.proofs.HearingLemmas.{AreTold-one}
use Rattle.desk_hooks.proofs.telling.tell_some.Goals as goal

pub returns-in-Some : goal.returns-in-Some
returns-in-Some g c = rw c.in-Some.is (AreTold-one _ _ c.in-Some.event c.args.hooks.now c.deliver.new.hooks c.deliver.ensures.heard c.deliver.ensures.left)
