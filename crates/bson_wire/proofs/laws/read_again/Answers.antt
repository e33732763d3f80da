use Rattle.bson_doc.proofs.wire.Outermost.{read_again}
use Rattle.bson_wire.proofs.laws.read_again.Goals as goal

pub returns : goal.returns
returns c = read_again
