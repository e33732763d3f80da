-- Reading from left to right, with the first fault that is met and its place (bsonspec 1.1; own: the names of the faults
-- and their places, since the standard names none). A reader of elements is given `start`, the place of the length of
-- their document, and `end`, the place where the bytes end, so that what is left begins at `end - length bytes`.
use Rattle.std.specs.Prelude.{ℕ, zero, suc, ◌+◌, ◌-◌, ℤ, true, false, ◌||◌, List, [], ◌∷◌, length, take, drop, Option, Result, Ok, Err, nat_lt, ◌==◌, position, if◌then◌else◌}
use Rattle.std.specs.Str.{is_utf8}
use Rattle.std.specs.Str.Lossy.{utf8_valid_len}
use Rattle.std.specs.Option.{option_map}
use Rattle.std.specs.Int.{w32, w64, cast_signed}
use Rattle.byteorder.specs.Endian.{little_number}
use Rattle.bson_doc.specs.declared.name.Name.{Name}
use Rattle.bson_doc.specs.declared.value.Document.{Document}
use Rattle.bson_doc.specs.declared.value.Value.{Value}
use Rattle.bson_doc.specs.declared.value.Value.TheVariants as value
use Rattle.bson_doc.specs.declared.bson_fault.BsonFault.{BsonFault}
use Rattle.bson_doc.specs.declared.bson_fault.BsonFault.TheVariants as fault
use Rattle.bson_doc.specs.declared.kind.Kind.{Kind}
use Rattle.bson_doc.specs.declared.kind.Kind.TheVariants as kinds
use Rattle.bson_doc.specs.declared.kind.PlainKind.{PlainKind}
use Rattle.bson_doc.specs.declared.kind.PlainKind.TheVariants as plain
use Rattle.bson_doc.specs.Steps.{◌>>=◌, ReadOr, or_fault, fault_of}
use Rattle.bson_doc.specs.Steps as steps
use Rattle.bson_doc.specs.wire.Kinds.{kind_of_byte}
use Rattle.bson_doc.specs.wire.Limits.{most_bytes, most_levels}
use Rattle.bson_doc.specs.wire.Spelling.{values}

-- What a call answered is what reading gives, unless memory ran out; view is what is seen of an Ok.
abbrev pub Gives : {X Y : Type 0} → (X → Y) → Result X BsonFault → Result Y BsonFault → Type 0
Gives = steps.Gives fault.Memory

-- What was read from the front of some bytes, and the bytes behind it, or the fault that was met.
abbrev pub Read : Type 0 → Type 0
Read A = ReadOr BsonFault A

-- So many bytes. Where there are fewer, the length at the place is at fault.
abbrev pub bytes_at : ℕ → ℕ → List ℕ → Read (List ℕ)
bytes_at at n bytes = if nat_lt (length bytes) n then Err (fault.Length at) else Ok (take n bytes, drop n bytes)

-- A byte. Where there is none, the length at the place is at fault.
abbrev pub byte_at : ℕ → List ℕ → Read ℕ
byte_at at [] = Err (fault.Length at)
byte_at at (b ∷ rest) = Ok (b, rest)

-- What stands in front of the first 00, and what stands behind it.
abbrev pub until_zero : List ℕ → Option (List ℕ × List ℕ)
until_zero bytes = option_map (λ i. (take i bytes, drop (i + 1) bytes)) (position (λ b. b == 0) bytes)

-- What stands behind a 00 at the front. Where none is there, the length at the place is at fault.
abbrev pub behind_zero : ℕ → List ℕ → Result (List ℕ) BsonFault
behind_zero at [] = Err (fault.Length at)
behind_zero at (zero ∷ rest) = Ok rest
behind_zero at (suc b ∷ rest) = Err (fault.Length at)

-- All of the bytes as a text that begins at the place; the fault names the first byte that is no UTF-8.
unfoldable pub text_at : ℕ → List ℕ → Result (List ℕ) BsonFault
text_at at bytes = if is_utf8 bytes then Ok bytes else Err (fault.Utf8 (at + utf8_valid_len bytes))

-- The name of an element (bsonspec 1.1, cstring). Where its 00 is missing, it passes the end of its document.
unfoldable pub name_at : ℕ → ℕ → List ℕ → Read (List ℕ)
name_at start end bytes = do
  parts ← or_fault (fault.Length start) (until_zero bytes)
  name ← text_at (end - length bytes) parts.0
  Ok (name, parts.1)

-- A length field and its number (bsonspec 1.1, int32): at least `least`, and all that it counts is there; `own` is how
-- many bytes of the field itself it counts. Else the fault is at the field. The number is read without sign, so a
-- negative length is above all that can follow, and has no case of its own.
unfoldable pub length_at : ℕ → ℕ → ℕ → List ℕ → Read ℕ
length_at least own end bytes = do
  number ← bytes_at (end - length bytes) 4 bytes
  let n = little_number 4 number.0 in
      if nat_lt n least || nat_lt (length number.1 + own) n then Err (fault.Length (end - length bytes)) else Ok (n, number.1)

-- A text with its length in front and 00 behind (bsonspec 1.1, string). The 00 is looked at before the text.
unfoldable pub string_at : ℕ → List ℕ → Read (List ℕ)
string_at end bytes = do
  n ← length_at 1 0 end bytes
  rest ← behind_zero (end - length bytes) (drop (n.0 - 1) n.1)
  text ← text_at (end - length n.1) (take (n.0 - 1) n.1)
  Ok (text, rest)

-- A truth value (bsonspec 1.1, boolean).
unfoldable pub bool_at : ℕ → ℕ → List ℕ → Read Value
bool_at start end [] = Err (fault.Length start)
bool_at start end (zero ∷ rest) = Ok (value.Bool false, rest)
bool_at start end (suc zero ∷ rest) = Ok (value.Bool true, rest)
bool_at start end (suc (suc b) ∷ rest) = Err (fault.Bool (end - length (suc (suc b) ∷ rest)) (suc (suc b)))

-- How many bytes, a subtype, and the bytes (bsonspec 1.1, binary). The length is at fault where the subtype or a byte that
-- it counts is missing.
unfoldable pub binary_at : ℕ → List ℕ → Read (ℕ × List ℕ)
binary_at end bytes = do
  n ← length_at 0 0 end bytes
  subtype ← byte_at (end - length bytes) n.1
  held ← bytes_at (end - length bytes) n.0 subtype.1
  Ok ((subtype.0, held.0), held.1)

-- A pattern and options (bsonspec 1.1, regular expression).
unfoldable pub regex_at : ℕ → ℕ → List ℕ → Read (List ℕ × List ℕ)
regex_at start end bytes = do
  pattern ← name_at start end bytes
  options ← name_at start end pattern.1
  Ok ((pattern.0, options.0), options.1)

-- A string and an ObjectId (bsonspec 1.1, DBPointer). No length field counts the twelve bytes of the ObjectId.
unfoldable pub pointer_at : ℕ → ℕ → List ℕ → Read (List ℕ × List ℕ)
pointer_at start end bytes = do
  space ← string_at end bytes
  id ← bytes_at start 12 space.1
  Ok ((space.0, id.0), id.1)

-- A signed number of eight bytes (bsonspec 1.1, int64).
abbrev pub int64_of : List ℕ → ℤ
int64_of bytes = cast_signed w64 (little_number 8 bytes)

-- A value of a kind that holds no document (bsonspec 1.1, element).
unfoldable pub plain_at : ℕ → ℕ → PlainKind → List ℕ → Read Value
plain_at start end plain.Double bytes = bytes_at start 8 bytes >>= (λ x. Ok (value.Double x.0, x.1))
plain_at start end plain.Str bytes = string_at end bytes >>= (λ x. Ok (value.Str x.0, x.1))
plain_at start end plain.Binary bytes = binary_at end bytes >>= (λ x. Ok (value.Binary x.0.0 x.0.1, x.1))
plain_at start end plain.Undefined bytes = Ok (value.Undefined, bytes)
plain_at start end plain.Oid bytes = bytes_at start 12 bytes >>= (λ x. Ok (value.Oid (record { 0 = x.0 }), x.1))
plain_at start end plain.Bool bytes = bool_at start end bytes
plain_at start end plain.Date bytes = bytes_at start 8 bytes >>= (λ x. Ok (value.Date (int64_of x.0), x.1))
plain_at start end plain.Null bytes = Ok (value.Null, bytes)
plain_at start end plain.Regex bytes = regex_at start end bytes >>= (λ x. Ok (value.Regex x.0.0 x.0.1, x.1))
plain_at start end plain.DbPointer bytes =
    pointer_at start end bytes >>= (λ x. Ok (value.DbPointer x.0.0 (record { 0 = x.0.1 }), x.1))
plain_at start end plain.Code bytes = string_at end bytes >>= (λ x. Ok (value.Code x.0, x.1))
plain_at start end plain.Symbol bytes = string_at end bytes >>= (λ x. Ok (value.Symbol x.0, x.1))
plain_at start end plain.Int32 bytes =
    bytes_at start 4 bytes >>= (λ x. Ok (value.Int32 (cast_signed w32 (little_number 4 x.0)), x.1))
plain_at start end plain.Stamp bytes = bytes_at start 8 bytes >>= (λ x. Ok (value.Stamp (little_number 8 x.0), x.1))
plain_at start end plain.Int64 bytes = bytes_at start 8 bytes >>= (λ x. Ok (value.Int64 (int64_of x.0), x.1))
plain_at start end plain.Decimal bytes = bytes_at start 16 bytes >>= (λ x. Ok (value.Decimal x.0, x.1))
plain_at start end plain.Min bytes = Ok (value.Min, bytes)
plain_at start end plain.Max bytes = Ok (value.Max, bytes)

-- That no bytes are left. Where some are, the length at the place is at fault.
abbrev pub no_more : ℕ → List ℕ → Result (List ℕ) BsonFault
no_more at [] = Ok []
no_more at (b ∷ rest) = Err (fault.Length at)

-- A string and a document, which are all of the bytes; `at` is the place of the total that counts them. Inner reads the
-- document.
unfoldable pub inside_scope_at : (ℕ → List ℕ → Read Document) → ℕ → ℕ → List ℕ → Result (List ℕ × Document) BsonFault
inside_scope_at Inner at end bytes = do
  code ← string_at end bytes
  scope ← Inner end code.1
  left ← no_more at scope.1
  Ok (code.0, scope.0)

-- A total, a string, and a document (bsonspec 1.1, code_w_s): the total is at least 14, since the least string has five
-- bytes and the least document too, and the string and the document end where it says.
unfoldable pub scope_at : (ℕ → List ℕ → Read Document) → ℕ → List ℕ → Read (List ℕ × Document)
scope_at Inner end bytes = do
  n ← length_at 14 4 end bytes
  parts ← inside_scope_at Inner (end - length bytes) (end - length bytes + n.0) (take (n.0 - 4) n.1)
  Ok (parts, drop (n.0 - 4) n.1)

-- Of an element, of elements, and of a document that were read, the values alone: the names of an array are not kept.
abbrev pub unnamed_element : Read (Name × Value) → Read Value
unnamed_element read = read >>= (λ x. Ok (x.0.1, x.1))

abbrev pub unnamed_elements : Result (List (Name × Value)) BsonFault → Result (List Value) BsonFault
unnamed_elements read = read >>= (λ es. Ok (values es))

abbrev pub unnamed_document : Read Document → Read (List Value)
unnamed_document read = read >>= (λ x. Ok (values x.0.elements, x.1))

-- A value (bsonspec 1.1, element). Inner reads a document that lies inside.
unfoldable pub value_at : (ℕ → List ℕ → Read Document) → ℕ → ℕ → Kind → List ℕ → Read Value
value_at Inner start end kinds.Doc bytes = Inner end bytes >>= (λ x. Ok (value.Doc x.0, x.1))
value_at Inner start end kinds.Array bytes = unnamed_document (Inner end bytes) >>= (λ x. Ok (value.Array x.0, x.1))
value_at Inner start end kinds.Scope bytes = scope_at Inner end bytes >>= (λ x. Ok (value.Scope x.0.0 x.0.1, x.1))
value_at Inner start end (kinds.Plain plain) bytes = plain_at start end plain bytes

-- The fault of a type byte that no kind has. A 00 is a document's end that is not its last byte.
abbrev pub no_kind : ℕ → ℕ → ℕ → BsonFault
no_kind start at byte = if byte == 0 then fault.Length start else fault.Kind at byte

-- The kind of a type byte that stands at the place.
abbrev pub kind_at : ℕ → ℕ → ℕ → Result Kind BsonFault
kind_at start at byte = or_fault (no_kind start at byte) (kind_of_byte byte)

-- What stands behind a type byte: a name and a value (bsonspec 1.1, element). The type byte is looked at first.
unfoldable pub element_at : (ℕ → List ℕ → Read Document) → ℕ → ℕ → ℕ → List ℕ → Read (Name × Value)
element_at Inner start end byte bytes = do
  kind ← kind_at start (end - length bytes - 1) byte
  name ← name_at start end bytes
  x ← value_at Inner start end kind name.1
  Ok ((name.0, x.0), x.1)

-- Elements to the end of the bytes (bsonspec 1.1, e_list). The fuel counts elements, of which each takes a byte at least:
-- it begins at the total of the document, which is more than its bytes, so the case without fuel is never reached, and
-- what it answers is not seen.
unfoldable pub elements_at : (ℕ → List ℕ → Read Document) → ℕ → ℕ → ℕ → List ℕ → Result (List (Name × Value)) BsonFault
elements_at Inner fuel start end [] = Ok []
elements_at Inner zero start end (byte ∷ bytes) = Err fault.Short
elements_at Inner (suc fuel) start end (byte ∷ bytes) = do
  first ← element_at Inner start end byte bytes
  others ← elements_at Inner fuel start end first.1
  Ok (first.0 ∷ others)

-- What stands behind the length field of a document whose total is n (bsonspec 1.1, document): elements, and 00. The
-- last byte is kept for the 00, so no element may reach it; where it is another byte the fault is at the length field.
unfoldable pub body_at : (ℕ → List ℕ → Read Document) → ℕ → ℕ → List ℕ → Read Document
body_at Inner start n bytes = do
  elements ← elements_at Inner n start (start + n - 1) (take (n - 5) bytes)
  rest ← behind_zero start (drop (n - 5) bytes)
  Ok (record { elements = elements }, rest)

-- A document inside another, where so many levels are left. No level is left for one that would be a level too many.
unfoldable pub document_at : ℕ → ℕ → List ℕ → Read Document
document_at zero end bytes = Err (fault.Deep (end - length bytes))
document_at (suc levels) end bytes =
    length_at 5 4 end bytes >>= (λ n. body_at (document_at levels) (end - length bytes) n.0 n.1)

-- The total of the outermost document, where all that it counts is there (own: a total from 5 to 48,000,000 that is
-- more than the bytes given is Short, not a fault of the bytes).
unfoldable pub total_at : List ℕ → Result ℕ BsonFault
total_at bytes =
    if nat_lt (length bytes) 4 then Err fault.Short else
    let n = little_number 4 (take 4 bytes) in
    if nat_lt n 5 || nat_lt most_bytes n then Err (fault.Length 0) else
    if nat_lt (length bytes) n then Err fault.Short else
    Ok n

-- The outermost document, and the bytes behind it. The total is looked at before all else.
unfoldable pub read : List ℕ → Read Document
read bytes = total_at bytes >>= (λ n. body_at (document_at (most_levels - 1)) 0 n (drop 4 bytes))

-- The first fault of the bytes, and none where they begin with a document.
unfoldable pub flaw : List ℕ → Option BsonFault
flaw bytes = fault_of (read bytes)
