use Rattle.net_link.proofs.OnlyLemmas.{OnlyAt-all, seen-elsewhere}
use Rattle.net_link.proofs.laws.other_streams_stay.Goals as goal

pub returns : goal.returns
returns c = λ stream other old between new calls apart. seen-elsewhere stream other (OnlyAt-all stream old between new calls) apart
