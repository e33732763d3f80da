-- Reading the sections of a message from the left, with the first fault that is met and its place (MongoDB wire protocol,
-- OP_MSG, Sections; the faults, their order and their places are own). A reader is given `end`, the place where its bytes
-- end, so that what is left begins at `end - length bytes`. Its fuel counts what it reads, of which each takes a byte at
-- least; it is more than the bytes, so the case without fuel is never reached, and what it answers is not seen.
use Rattle.std.specs.Prelude.{ℕ, zero, suc, ◌-◌, Bool, ◌||◌, List, [], ◌∷◌, length, take, drop, Option, Some, None, is_some, Result, Ok, Err, nat_lt, nat_le, if◌then◌else◌}
use Rattle.std.specs.Str.{is_utf8}
use Rattle.bson_doc.specs.Steps.{◌>>=◌, or_fault}
use Rattle.bson_doc.specs.declared.value.Document.{Document}
use Rattle.bson_doc.specs.declared.bson_fault.BsonFault.{BsonFault}
use Rattle.bson_doc.specs.declared.bson_fault.BsonFault.TheVariants as bson_fault
use Rattle.bson_doc.specs.wire.Reading.{until_zero}
use Rattle.bson_doc.specs.wire.Reading as documents
use Rattle.msg_wire.specs.Fields.{number_at}
use Rattle.msg_wire.specs.Steps.{Read}
use Rattle.msg_wire.specs.declared.fault.MsgFault.{MsgFault}
use Rattle.msg_wire.specs.declared.fault.MsgFault.TheVariants as fault
use Rattle.msg_wire.specs.declared.section.Section.{Section}
use Rattle.msg_wire.specs.declared.section.Section.TheVariants as section
use Rattle.msg_wire.specs.declared.sequence.Sequence.{Sequence}

-- The error of a call that reads a document at the place. That memory ran out is no fault of the document.
abbrev pub body_fault : ℕ → BsonFault → MsgFault
body_fault place bson_fault.Memory = fault.Memory
body_fault place e = fault.Body place e

-- A document at the place, and the bytes behind it. The places in a document's fault count from the document's front.
abbrev pub document_at : ℕ → documents.Read Document → Read Document
document_at place (Ok x) = Ok x
document_at place (Err e) = Err (fault.Body place e)

-- Documents to the end of the bytes.
unfoldable pub documents_at : ℕ → ℕ → List ℕ → Result (List Document) MsgFault
documents_at zero end bytes = Err (fault.Sections end)
documents_at (suc fuel) end [] = Ok []
documents_at (suc fuel) end (byte ∷ bytes) = do
  first ← document_at (end - length (byte ∷ bytes)) (documents.read (byte ∷ bytes))
  others ← documents_at fuel end first.1
  Ok (first.0 ∷ others)

-- The size of the section of kind 1 at the place, of the bytes behind its kind: it counts itself and a name's 00 at
-- least, and no byte that is not there.
unfoldable pub size_at : ℕ → List ℕ → Result ℕ MsgFault
size_at at bytes =
    if nat_lt (length bytes) 4 then Err (fault.Sections at) else
    if nat_lt (number_at 0 bytes) 5 || nat_lt (length bytes) (number_at 0 bytes) then Err (fault.Sections at) else
    Ok (number_at 0 bytes)

-- All of the bytes as a text of the section at the place.
unfoldable pub text_at : ℕ → List ℕ → Result (List ℕ) MsgFault
text_at at bytes = if is_utf8 bytes then Ok bytes else Err (fault.Sections at)

-- The name of the section of kind 1 at the place (Document Sequence Identifier), and what stands behind its 00.
unfoldable pub name_at : ℕ → List ℕ → Read (List ℕ)
name_at at bytes = do
  parts ← or_fault (fault.Sections at) (until_zero bytes)
  name ← text_at at parts.0
  Ok (name, parts.1)

-- A section of kind 1, of the bytes behind its kind: its size, its name, and documents to where its size ends.
unfoldable pub sequence_at : ℕ → List ℕ → Read Sequence
sequence_at end bytes = do
  size ← size_at (end - length bytes - 1) bytes
  named ← name_at (end - length bytes - 1) (drop 4 (take size bytes))
  docs ← documents_at size (end - length (drop size bytes)) named.1
  Ok (record { name = named.0; docs = docs }, drop size bytes)

-- A section, where one of kind 0 was found before or was not. The fault of a second one, and of another kind than 0 and 1,
-- is at its first byte.
unfoldable pub section_at : Bool → ℕ → List ℕ → Read Section
section_at found end [] = Err (fault.Sections end)
section_at found end (zero ∷ rest) =
    if found
    then Err (fault.Sections (end - length rest - 1))
    else document_at (end - length rest) (documents.read rest) >>= (λ x. Ok (section.Body x.0, x.1))
section_at found end (suc zero ∷ rest) = sequence_at end rest >>= (λ x. Ok (section.Sequence x.0, x.1))
section_at found end (suc (suc kind) ∷ rest) = Err (fault.Sections (end - length rest - 1))

-- What the sections hold: the body, and the sequences in order.
abbrev pub Held : Type 0
Held = Document × List Sequence

-- The body, where the sections ended with so many bytes left, of which `spare` are the checksum's. Without a body, or
-- where fewer are left than the checksum has, the fault is where the sections ended.
abbrev pub closed_at : ℕ → ℕ → ℕ → Option Document → Result Document MsgFault
closed_at spare end left body = or_fault (fault.Sections (end - left)) (if nat_lt left spare then None else body)

-- What the sections hold from one that was read on. `others` reads those behind it.
abbrev pub with_section : (Option Document → List ℕ → Result Held MsgFault) → Option Document → Section × List ℕ → Result Held MsgFault
with_section others body (section.Body document, rest) = others (Some document) rest
with_section others body (section.Sequence first, rest) = others body rest >>= (λ x. Ok (x.0, first ∷ x.1))

-- Sections, until no more bytes are left than the checksum has; `body` is what was found before.
unfoldable pub sections_at : ℕ → ℕ → ℕ → Option Document → List ℕ → Result Held MsgFault
sections_at zero spare end body bytes = Err (fault.Sections end)
sections_at (suc fuel) spare end body bytes =
    if nat_le (length bytes) spare
    then closed_at spare end (length bytes) body >>= (λ document. Ok (document, []))
    else section_at (is_some body) end bytes >>= with_section (sections_at fuel spare end) body
