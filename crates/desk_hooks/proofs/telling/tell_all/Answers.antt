use Rattle.desk_hooks.proofs.HearingLemmas.{AreTold-append}
use Rattle.desk_hooks.proofs.telling.tell_all.Goals as goal

pub returns : goal.returns
returns g c = AreTold-append _ _ _ _ c.args.hooks.now c.tell_some.new.hooks c.tell_some-2.new.hooks c.tell_some.ensures c.tell_some-2.ensures
