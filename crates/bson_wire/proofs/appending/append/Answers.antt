use Rattle.std.proofs.Common.{◌≤◌, refl, arith}
use Rattle.bson_doc.specs.Documents.{depth_of}
use Rattle.bson_doc.specs.wire.Spelled.{spelled}
use Rattle.bson_wire.proofs.Written.{outermost_spells}
use Rattle.bson_wire.proofs.appending.append.Goals as goal

pub returns-clause-spells : goal.returns-clause-spells
returns-clause-spells c =
    let deep : depth_of c.args.doc.now ≤ 100 = omega (arith, c.depth.ensures.depth) in
    outermost_spells (spelled c.args.doc.now) c.args.doc.now refl c.in_ok-put_document.ensures.known c.in_ok-put_document.ensures.size deep
