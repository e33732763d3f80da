use Rattle.bson_doc.proofs.wire.Meanings.{meaning}
use Rattle.bson_wire.proofs.laws.meaning.Goals as goal

pub returns : goal.returns
returns c = meaning
