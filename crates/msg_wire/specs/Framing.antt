-- Which bytes frame a message: a relation by cases over whole byte strings (MongoDB wire protocol, OP_MSG). Neither a
-- place nor an order of reading stands here.
use Rattle.std.specs.Prelude.{◌≡◌, ℕ, ℤ, ◌+◌, ◌≤◌, List, [], ◌∷◌, ◌++◌, length, None}
use Rattle.std.specs.Int.{w32, cast_signed, cast_unsigned}
use Rattle.byteorder.specs.Endian.{little_number}
use Rattle.bson_doc.specs.declared.value.Document.{Document}
use Rattle.bson_doc.specs.wire.Spelling.{IsNumber32, IsName, Spells}
use Rattle.bson_doc.specs.wire.Spelled.{number32, spelled}
use Rattle.msg_wire.specs.Flags.{refused_bit, checksum_size}
use Rattle.msg_wire.specs.Limits.{most_message, op_msg}
use Rattle.msg_wire.specs.declared.message.Message.{Message}
use Rattle.msg_wire.specs.declared.sequence.Sequence.{Sequence}

-- Four bytes, the lowest first, that read as the signed number (MongoDB wire protocol, int32).
pub record IsSigned (bytes : List ℕ) (n : ℤ) : Type 0 where
  pub size : length bytes ≡ 4
  pub reads : cast_signed w32 (little_number 4 bytes) ≡ n

-- The header: messageLength, requestID, responseTo and opCode, which is 2013 (MongoDB wire protocol, Standard Message
-- Header and OP_MSG).
pub record IsHeader (bytes : List ℕ) (total : ℕ) (id to : ℤ) : Type 0 where
  pub total_field : List ℕ
  pub id_field : List ℕ
  pub to_field : List ℕ
  pub code_field : List ℕ
  pub parts : bytes ≡ total_field ++ (id_field ++ (to_field ++ code_field))
  pub is_total : IsNumber32 total_field total
  pub is_id : IsSigned id_field id
  pub is_to : IsSigned to_field to
  pub is_code : IsNumber32 code_field op_msg

-- A section of kind 0: the byte 00 and one document (MongoDB wire protocol, OP_MSG, Sections, Kind 0: Body).
pub record IsBody (bytes : List ℕ) (document : Document) : Type 0 where
  pub spelling : List ℕ
  pub parts : bytes ≡ 0 ∷ spelling
  pub spells : Spells spelling document

-- One document after another.
abbrev pub AreDocuments : List ℕ → List Document → Type 0
AreDocuments bytes [] = bytes ≡ []
AreDocuments bytes (d ∷ ds) =
    (first others : List ℕ) × (bytes ≡ first ++ others) × Spells first d × AreDocuments others ds

-- A section of kind 1: the byte 01, a size that counts itself and what follows, a name in UTF-8, 00, and documents,
-- possibly none (MongoDB wire protocol, OP_MSG, Sections, Kind 1: Document Sequence).
pub record IsSequence (bytes : List ℕ) (sequence : Sequence) : Type 0 where
  pub size : List ℕ
  pub documents : List ℕ
  pub parts : bytes ≡ 1 ∷ (size ++ (sequence.name ++ 0 ∷ documents))
  pub counts : IsNumber32 size (4 + length sequence.name + 1 + length documents)
  pub is_name : IsName sequence.name
  pub are_documents : AreDocuments documents sequence.docs

-- One section of kind 1 after another.
abbrev pub AreSequences : List ℕ → List Sequence → Type 0
AreSequences bytes [] = bytes ≡ []
AreSequences bytes (s ∷ ss) =
    (first others : List ℕ) × (bytes ≡ first ++ others) × IsSequence first s × AreSequences others ss

-- Sections in any order: exactly one of kind 0, and any number of kind 1 in front of it and behind it (MongoDB wire
-- protocol, OP_MSG, Sections; own: exactly one of kind 0). The sequences are those of kind 1 in their order.
pub record AreSections (bytes : List ℕ) (body : Document) (sequences : List Sequence) : Type 0 where
  pub front : List ℕ
  pub section : List ℕ
  pub behind : List ℕ
  pub earlier : List Sequence
  pub later : List Sequence
  pub parts : bytes ≡ front ++ (section ++ behind)
  pub are_earlier : AreSequences front earlier
  pub is_body : IsBody section body
  pub are_later : AreSequences behind later
  pub in_order : sequences ≡ earlier ++ later

-- The bytes frame the message: a header, whose messageLength counts all of them, flagBits, sections, and where
-- checksumPresent is set four more bytes, whatever they are (MongoDB wire protocol, OP_MSG; own: the checksum is not
-- compared, and there are at most 48,000,000 bytes). There are at least 26, since a document has at least 5.
pub record Framed (bytes : List ℕ) (message : Message) : Type 0 where
  pub header : List ℕ
  pub flags : List ℕ
  pub sections : List ℕ
  pub checksum : List ℕ
  pub parts : bytes ≡ header ++ (flags ++ (sections ++ checksum))
  pub is_header : IsHeader header (length bytes) message.id message.to
  pub is_flags : IsNumber32 flags message.flags
  pub known : refused_bit message.flags ≡ None
  pub are_sections : AreSections sections message.body message.sequences
  pub is_checksum : length checksum ≡ checksum_size message.flags
  pub counted : message.length ≡ length bytes
  pub size : length bytes ≤ most_message

-- The header of a message of so many bytes (MongoDB wire protocol, Standard Message Header).
unfoldable pub header : ℕ → ℤ → ℤ → List ℕ
header total id to = number32 total ++ number32 (cast_unsigned w32 id) ++ number32 (cast_unsigned w32 to) ++ number32 op_msg

-- The header, flagBits, and one section of kind 0 with these bytes of a document (MongoDB wire protocol, OP_MSG). In
-- front of them stand 21 bytes.
unfoldable pub framing : ℤ → ℤ → ℕ → List ℕ → List ℕ
framing id to flags spelling = header (length spelling + 21) id to ++ number32 flags ++ 0 ∷ spelling

-- The bytes of the message with one section of kind 0, which holds the document in its one spelling (MongoDB wire
-- protocol, OP_MSG).
unfoldable pub frame : ℤ → ℤ → ℕ → Document → List ℕ
frame id to flags document = framing id to flags (spelled document)

-- The message of those bytes.
abbrev pub message_of : ℤ → ℤ → ℕ → Document → Message
message_of id to flags document =
    record { id = id; to = to; flags = flags; body = document; sequences = []; length = length (frame id to flags document) }
