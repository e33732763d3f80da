use Rattle.bson_doc.proofs.wire.Ahead.{no_look_ahead}
use Rattle.bson_wire.proofs.laws.no_look_ahead.Goals as goal

pub returns : goal.returns
returns c = no_look_ahead
