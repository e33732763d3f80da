use Rattle.bson_doc.proofs.wire.Outermost.{has_spelling, has_no_flaw}
use Rattle.bson_wire.proofs.laws.flawless.Goals as goal

pub returns : goal.returns
returns c = λ bytes. (has_spelling bytes, has_no_flaw bytes)
