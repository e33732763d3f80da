use Rattle.bson_doc.proofs.wire.Outermost.{one_document}
use Rattle.bson_wire.proofs.laws.one_document.Goals as goal

pub returns : goal.returns
returns c = one_document
