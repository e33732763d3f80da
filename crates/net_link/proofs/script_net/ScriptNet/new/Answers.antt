use Rattle.net_link.proofs.ScriptLemmas.{IsSound-nil}
use Rattle.net_link.proofs.script_net.ScriptNet.new.Goals as goal

pub invariant_of-result : goal.invariant_of-result
invariant_of-result c = IsSound-nil c.new.result.items c.new-2.result c.new.ensures.items c.new-2.ensures.events
