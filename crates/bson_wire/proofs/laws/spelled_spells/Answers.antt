use Rattle.bson_wire.proofs.Canonical.{spelled_spells}
use Rattle.bson_wire.proofs.laws.spelled_spells.Goals as goal

pub returns : goal.returns
returns c = spelled_spells
