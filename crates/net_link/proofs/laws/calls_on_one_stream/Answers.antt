use Rattle.net_link.proofs.OnlyLemmas.{OnlyAt-all}
use Rattle.net_link.proofs.laws.calls_on_one_stream.Goals as goal

pub returns : goal.returns
returns c = OnlyAt-all
