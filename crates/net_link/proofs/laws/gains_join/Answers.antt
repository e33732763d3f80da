use Rattle.net_link.proofs.GainLemmas.{gained-joins}
use Rattle.net_link.proofs.laws.gains_join.Goals as goal

pub returns : goal.returns
returns c = gained-joins
