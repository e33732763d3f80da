use Rattle.bson_doc.proofs.wire.Outermost.{no_prefix}
use Rattle.bson_wire.proofs.laws.no_prefix.Goals as goal

pub returns : goal.returns
returns c = no_prefix
