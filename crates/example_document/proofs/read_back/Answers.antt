use Rattle.std.proofs.Common.{◌≡◌, [], ap, sym, ◌∙◌}
use Rattle.std.proofs.lemmas.List.{append-nil}
use Rattle.bson_doc.specs.declared.value.Document.{Document}
use Rattle.example_document.proofs.read_back.Goals as goal

-- What spells the document is read as it, with nothing behind.
pub returns : goal.returns
returns c =
    let bytes = c.in_ok-bytes.bytes in
    let read = c.in_ok-again.ensures.only bytes [] c.args.document.now
    (c.as_slice.ensures.value ∙ sym (append-nil bytes)) c.in_ok-bytes.ensures.spells in
    record { same = ap (λ x. x.0) read }
