use Rattle.std.proofs.Common.{◌≤◌, ◌++◌, List, ℕ, ap, ◌∙◌, arith}
use Rattle.bson_doc.specs.Documents.{depth_of}
use Rattle.bson_doc.specs.wire.Spelled.{spelled}
use Rattle.bson_doc.proofs.wire.Outermost.{read_again}
use Rattle.bson_wire.proofs.Written.{outermost_spells}
use Rattle.bson_wire.proofs.encoding.encode.Goals as goal

pub returns-clause-spells : goal.returns-clause-spells
returns-clause-spells c =
    let d = c.args.doc.now in
    let all = c.from_vec.ensures.value ∙ c.in_ok-put_document.ensures.ok ∙ ap (λ (xs : List ℕ). xs ++ spelled d) c.new-out.ensures.items in
    let deep : depth_of d ≤ 100 = omega (arith, c.depth.ensures.depth) in
    outermost_spells c.from_vec.result d all c.in_ok-put_document.ensures.known c.in_ok-put_document.ensures.size deep

pub returns-clause-again : goal.returns-clause-again
returns-clause-again c = λ more. read_again c.from_vec.result more c.args.doc.now (returns-clause-spells c)
