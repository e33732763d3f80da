-- Sections have no fault of the header or of flagBits, and their faults lie inside the message.
use Rattle.std.proofs.Common.{◌≡◌, ◌≢◌, ◌≤◌, ℕ, zero, suc, ◌-◌, Bool, true, false, cond, ltb, leb, ◌||◌, List, [], ◌∷◌, length, take, drop, Option, Some, is_some, Result, Ok, Err, IfErr, refl, ap, subst, arith}
use Rattle.bson_doc.specs.Steps.{fault_of, or_fault}
use Rattle.bson_doc.specs.declared.bson_fault.BsonFault.{BsonFault}
use Rattle.bson_doc.specs.declared.bson_fault.BsonFault.TheVariants as bson_fault
use Rattle.bson_doc.specs.declared.value.Document.{Document}
use Rattle.bson_doc.specs.wire.Meaning.{Means}
use Rattle.bson_doc.proofs.wire.Meanings.{meaning}
use Rattle.bson_doc.proofs.Steps.{IfErr-bind, IfErr-cond, IfErr-or_fault}
use Rattle.bson_doc.specs.wire.Reading.{flaw, until_zero}
use Rattle.bson_doc.specs.wire.Reading as documents
use Rattle.msg_wire.specs.Fields.{number_at}
use Rattle.msg_wire.specs.Sections.{Held, closed_at, document_at, documents_at, name_at, section_at, sections_at, sequence_at, size_at, text_at, with_section}
use Rattle.msg_wire.specs.declared.fault.MsgFault.{MsgFault}
use Rattle.msg_wire.specs.declared.fault.MsgFault.TheVariants as fault
use Rattle.msg_wire.specs.declared.section.Section.{Section}
use Rattle.msg_wire.specs.declared.section.Section.TheVariants as section

-- A fault of the sections of a message of so many bytes.
abbrev pub IsBehind : ℕ → MsgFault → Type 0
IsBehind end (fault.Short need) = ⊥
IsBehind end (fault.Length got) = ⊥
IsBehind end (fault.Opcode got) = ⊥
IsBehind end (fault.Flags bit) = ⊥
IsBehind end (fault.Sections at) = at ≤ end
IsBehind end (fault.Body at inner) = (at ≤ end) × (inner ≢ bson_fault.Memory)
IsBehind end fault.Memory = ⊥

-- No reading of a document meets want of memory.
not_memory : (bytes : List ℕ) (e : BsonFault) → documents.read bytes ≡ Err e → e ≢ bson_fault.Memory
unfolding flaw
not_memory bytes e read memory = subst (Means bytes) memory (meaning bytes e (ap fault_of read))

IsBehind-result : (end place : ℕ) (read : documents.Read Document) → place ≤ end → ((e : BsonFault) → read ≡ Err e → e ≢ bson_fault.Memory) → IfErr (document_at place read) (IsBehind end)
IsBehind-result end place (Ok x) inside other = tt
IsBehind-result end place (Err e) inside other = (inside, other e refl)

IsBehind-document_at : (end place : ℕ) (bytes : List ℕ) → place ≤ end → IfErr (document_at place (documents.read bytes)) (IsBehind end)
IsBehind-document_at end place bytes inside = IsBehind-result end place (documents.read bytes) inside (not_memory bytes)

IsBehind-documents_at : (fuel end : ℕ) (bytes : List ℕ) → IfErr (documents_at fuel end bytes) (IsBehind end)
unfolding documents_at
IsBehind-documents_at zero end bytes = omega arith
IsBehind-documents_at (suc fuel) end [] = tt
IsBehind-documents_at (suc fuel) end (byte ∷ bytes) =
    let place : ℕ = end - length (byte ∷ bytes) in
    let inside : place ≤ end = omega arith in
    IfErr-bind (IsBehind end) (document_at place (documents.read (byte ∷ bytes))) _ (IsBehind-document_at end place (byte ∷ bytes) inside)
    (λ first. IfErr-bind (IsBehind end) (documents_at fuel end first.1) _ (IsBehind-documents_at fuel end first.1) (λ others. tt))

-- A fault inside a part of the message.
IsBehind-less : {A : Type 0} (end less : ℕ) (r : Result A MsgFault) → less ≤ end → IfErr r (IsBehind less) → IfErr r (IsBehind end)
IsBehind-less end less (Ok x) fewer h = tt
IsBehind-less end less (Err (fault.Short need)) fewer h = h
IsBehind-less end less (Err (fault.Length got)) fewer h = h
IsBehind-less end less (Err (fault.Opcode got)) fewer h = h
IsBehind-less end less (Err (fault.Flags bit)) fewer h = h
IsBehind-less end less (Err (fault.Sections at)) fewer h = omega (arith, fewer, h)
IsBehind-less end less (Err (fault.Body at inner)) fewer h = (omega (arith, fewer, h.0), h.1)
IsBehind-less end less (Err fault.Memory) fewer h = h

IsBehind-inner : (fuel end behind : ℕ) (bytes : List ℕ) → IfErr (documents_at fuel (end - behind) bytes) (IsBehind end)
IsBehind-inner fuel end behind bytes = IsBehind-less end (end - behind) (documents_at fuel (end - behind) bytes) (omega arith) (IsBehind-documents_at fuel (end - behind) bytes)

IsBehind-guard : {A : Type 0} (end : ℕ) (b : Bool) (at : ℕ) (r : Result A MsgFault) → at ≤ end → IfErr r (IsBehind end) → IfErr (cond b (Err (fault.Sections at)) r) (IsBehind end)
IsBehind-guard end true at r inside h = inside
IsBehind-guard end false at r inside h = h

IsBehind-size_at : (end at : ℕ) (bytes : List ℕ) → at ≤ end → IfErr (size_at at bytes) (IsBehind end)
unfolding size_at
IsBehind-size_at end at bytes inside =
    let n : ℕ = number_at 0 bytes in
    IsBehind-guard end (ltb (length bytes) 4) at _ inside (IsBehind-guard end (ltb n 5 || ltb (length bytes) n) at (Ok n) inside tt)

IsBehind-text_at : (end at : ℕ) (bytes : List ℕ) → at ≤ end → IfErr (text_at at bytes) (IsBehind end)
unfolding text_at
IsBehind-text_at end at bytes inside = IfErr-cond (IsBehind end) _ (Ok bytes) (Err (fault.Sections at)) tt inside

IsBehind-name_at : (end at : ℕ) (bytes : List ℕ) → at ≤ end → IfErr (name_at at bytes) (IsBehind end)
unfolding name_at
IsBehind-name_at end at bytes inside =
    IfErr-bind (IsBehind end) (or_fault (fault.Sections at) (until_zero bytes)) _ (IfErr-or_fault (IsBehind end) (fault.Sections at) (until_zero bytes) inside)
    (λ parts. IfErr-bind (IsBehind end) (text_at at parts.0) _ (IsBehind-text_at end at parts.0 inside) (λ name. tt))

IsBehind-sequence_at : (end : ℕ) (bytes : List ℕ) → IfErr (sequence_at end bytes) (IsBehind end)
unfolding sequence_at
IsBehind-sequence_at end bytes =
    let at : ℕ = end - length bytes - 1 in
    let inside : at ≤ end = omega arith in
    IfErr-bind (IsBehind end) (size_at at bytes) _ (IsBehind-size_at end at bytes inside)
    (λ size. IfErr-bind (IsBehind end) (name_at at (drop 4 (take size bytes))) _ (IsBehind-name_at end at (drop 4 (take size bytes)) inside)
    (λ named. IfErr-bind (IsBehind end) (documents_at size (end - length (drop size bytes)) named.1) _ (IsBehind-inner size end (length (drop size bytes)) named.1) (λ docs. tt)))

IsBehind-section_at : (found : Bool) (end : ℕ) (bytes : List ℕ) → IfErr (section_at found end bytes) (IsBehind end)
unfolding section_at
IsBehind-section_at found end [] = omega arith
IsBehind-section_at true end (zero ∷ rest) = omega arith
IsBehind-section_at false end (zero ∷ rest) =
    let inside : end - length rest ≤ end = omega arith in
    IfErr-bind (IsBehind end) (document_at (end - length rest) (documents.read rest)) _ (IsBehind-document_at end (end - length rest) rest inside) (λ x. tt)
IsBehind-section_at found end (suc zero ∷ rest) = IfErr-bind (IsBehind end) (sequence_at end rest) _ (IsBehind-sequence_at end rest) (λ x. tt)
IsBehind-section_at found end (suc (suc kind) ∷ rest) = omega arith

IsBehind-closed_at : (spare end left : ℕ) (body : Option Document) → IfErr (closed_at spare end left body) (IsBehind end)
IsBehind-closed_at spare end left body = let inside : end - left ≤ end = omega arith in IfErr-or_fault (IsBehind end) (fault.Sections (end - left)) _ inside

IsBehind-others : (end : ℕ) (F : Option Document → List ℕ → Result Held MsgFault) → ((body : Option Document) (rest : List ℕ) → IfErr (F body rest) (IsBehind end)) → (body : Option Document) (s : Section × List ℕ)
    → IfErr (with_section F body s) (IsBehind end)
IsBehind-others end F others body (section.Body document, rest) = others (Some document) rest
IsBehind-others end F others body (section.Sequence first, rest) = IfErr-bind (IsBehind end) (F body rest) _ (others body rest) (λ x. tt)

pub IsBehind-sections_at : (fuel spare end : ℕ) (body : Option Document) (bytes : List ℕ) → IfErr (sections_at fuel spare end body bytes) (IsBehind end)
unfolding sections_at
IsBehind-sections_at zero spare end body bytes = omega arith
IsBehind-sections_at (suc fuel) spare end body bytes =
    IfErr-cond (IsBehind end) (leb (length bytes) spare) _ _
    (IfErr-bind (IsBehind end) (closed_at spare end (length bytes) body) _ (IsBehind-closed_at spare end (length bytes) body) (λ document. tt))
    (IfErr-bind (IsBehind end) (section_at (is_some body) end bytes) _ (IsBehind-section_at (is_some body) end bytes) (IsBehind-others end (sections_at fuel spare end) (IsBehind-sections_at fuel spare end) body))
