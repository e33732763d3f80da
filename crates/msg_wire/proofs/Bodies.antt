-- What reading the document of a section gives, from what reading a document gives.
use Rattle.std.proofs.Common.{◌≡◌, ◌≢◌, ℕ, List, take, drop, Some, Ok, Err, inl, inr, refl, sym, ap, ◌∙◌}
use Rattle.std.proofs.lemmas.List.{take-append-drop}
use Rattle.bson_doc.specs.Steps.{Fails}
use Rattle.bson_doc.proofs.Steps.{err_from_fault}
use Rattle.bson_doc.specs.declared.value.Document.{Document}
use Rattle.bson_doc.specs.declared.bson_fault.BsonFault.{BsonFault}
use Rattle.bson_doc.specs.declared.bson_fault.BsonFault.TheVariants as bson_fault
use Rattle.bson_doc.specs.wire.Spelling.{Spells}
use Rattle.bson_doc.specs.wire.Reading.{flaw}
use Rattle.bson_doc.specs.wire.Reading as documents
use Rattle.bson_doc.proofs.wire.Outermost.{read_again}
use Rattle.msg_wire.specs.Sections.{body_fault, document_at}
use Rattle.msg_wire.specs.declared.fault.MsgFault.TheVariants as fault

-- A front that spells a document is what reading takes.
pub read-spelled : (bytes : List ℕ) (n : ℕ) (document : Document) → Spells (take n bytes) document → documents.read bytes ≡ Ok (document, drop n bytes)
read-spelled bytes n document spells =
    sym (ap documents.read (take-append-drop n bytes)) ∙ read_again (take n bytes) (drop n bytes) document spells

read-flawed : (bytes : List ℕ) (e : BsonFault) → flaw bytes ≡ Some e → documents.read bytes ≡ Err e
unfolding flaw
read-flawed bytes e h = err_from_fault (documents.read bytes) e h

fails-body : (place : ℕ) (bytes : List ℕ) (e : BsonFault) → (e ≢ bson_fault.Memory → flaw bytes ≡ Some e) → e ≢ bson_fault.Memory
    → Fails fault.Memory (fault.Body place e) (document_at place (documents.read bytes))
fails-body place bytes e h other = inr (ap (document_at place) (read-flawed bytes e (h other)))

-- A fault of the document is a fault of its section.
pub Fails-body_fault : (place : ℕ) (bytes : List ℕ) (e : BsonFault) → (e ≢ bson_fault.Memory → flaw bytes ≡ Some e)
    → Fails fault.Memory (body_fault place e) (document_at place (documents.read bytes))
Fails-body_fault place bytes bson_fault.Memory h = inl refl
Fails-body_fault place bytes bson_fault.Short h = fails-body place bytes bson_fault.Short h (λ q. cc)
Fails-body_fault place bytes (bson_fault.Length at) h = fails-body place bytes (bson_fault.Length at) h (λ q. cc)
Fails-body_fault place bytes (bson_fault.Kind at byte) h = fails-body place bytes (bson_fault.Kind at byte) h (λ q. cc)
Fails-body_fault place bytes (bson_fault.Utf8 at) h = fails-body place bytes (bson_fault.Utf8 at) h (λ q. cc)
Fails-body_fault place bytes (bson_fault.Bool at byte) h = fails-body place bytes (bson_fault.Bool at byte) h (λ q. cc)
Fails-body_fault place bytes (bson_fault.Deep at) h = fails-body place bytes (bson_fault.Deep at) h (λ q. cc)
