use Rattle.std.proofs.lemmas.Result.{err_from_is_err_and}
use Rattle.bson_doc.proofs.wire.Outermost.{is_found, is_only, is_sound, is_memory, is_flaw}
use Rattle.bson_wire.proofs.decoding.decode.Goals as goal

pub returns-in_err-document-clause-only : goal.returns-in_err-document-clause-only
returns-in_err-document-clause-only c =
    let p = err_from_is_err_and c.from_residual.result c.from_residual.ensures.1 in
    λ text more document parts spells. rw (p.1, p.2) (is_memory c.in_err-document.field-0.0 c.args.bytes.now text more document c.in_err-document.ensures.gives parts spells)

pub returns-in_err-document-clause-fault : goal.returns-in_err-document-clause-fault
returns-in_err-document-clause-fault c =
    let p = err_from_is_err_and c.from_residual.result c.from_residual.ensures.1 in
    rw (p.1, p.2) (λ other. is_flaw c.in_err-document.field-0.0 c.args.bytes.now c.in_err-document.ensures.gives other)

pub returns-clause-found : goal.returns-clause-found
returns-clause-found c = is_found c.args.bytes.now c.in_ok-document.document c.in_ok-document.rest.now c.in_ok-document.ensures.gives

pub returns-clause-only : goal.returns-clause-only
returns-clause-only c = λ text more document parts spells. is_only c.args.bytes.now c.in_ok-document.document c.in_ok-document.rest.now text more document c.in_ok-document.ensures.gives parts spells

pub returns-clause-sound : goal.returns-clause-sound
returns-clause-sound c = is_sound c.args.bytes.now (c.in_ok-document.document, c.in_ok-document.rest.now) c.in_ok-document.ensures.gives
