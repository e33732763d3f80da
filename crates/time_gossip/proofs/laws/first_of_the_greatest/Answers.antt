use Rattle.std.specs.Prelude.{[], None}
use Rattle.std.proofs.Common.{refl}
use Rattle.time_gossip.proofs.TimesLemmas.{kept_behind-first}
use Rattle.time_gossip.proofs.laws.first_of_the_greatest.Goals as goal

pub returns : goal.returns
returns c came = kept_behind-first [] None came refl
