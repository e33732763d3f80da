use Rattle.std.proofs.Common.{◌≡◌, ◌≤◌, length, take, ap, arith, length-drop}
use Rattle.std.proofs.lemmas.List.{take_rest, length-take-le}
use Rattle.msg_wire.specs.Sections.{document_at}
use Rattle.msg_wire.proofs.Bodies.{read-spelled, Fails-body_fault}
use Rattle.msg_wire.proofs.Sizes.{length-Spells}
use Rattle.msg_wire.proofs.documents.document_of.Goals as goal

pub returns-in-Ok-clause-gives : goal.returns-in-Ok-clause-gives
returns-in-Ok-clause-gives c =
    rw (take_rest c.args.bytes.now c.in-Ok.n)
    (ap (document_at c.args.at) (read-spelled c.args.bytes.now c.in-Ok.n c.in-Ok.document c.in-Ok.ensures.found.1))

pub returns-in-Ok-clause-rest : goal.returns-in-Ok-clause-rest
returns-in-Ok-clause-rest c =
    let bytes = c.args.bytes.now in
    let n = c.in-Ok.n in
    let there : n ≤ length bytes = c.in-Ok.ensures.found.0 in
    let taken : length (take n bytes) ≡ n = length-take-le n bytes there in
    let least : 5 ≤ length (take n bytes) = length-Spells (take n bytes) c.in-Ok.document c.in-Ok.ensures.found.1 in
    rw (take_rest bytes n) (omega (arith, length-drop n bytes))

pub returns-in-Err-clause-gives : goal.returns-in-Err-clause-gives
returns-in-Err-clause-gives c =
    rw c.body_fault_of.ensures (Fails-body_fault c.args.at c.args.bytes.now c.in-Err.fault c.in-Err.ensures.fault)
