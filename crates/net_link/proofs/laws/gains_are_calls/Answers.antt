use Rattle.net_link.proofs.GainLemmas.{gained-Adds}
use Rattle.net_link.proofs.laws.gains_are_calls.Goals as goal

pub returns : goal.returns
returns c = λ stream events old new adds. gained-Adds stream adds
