-- The one spelling of a document in which the names of an array are "0", "1" and so on (bsonspec 1.1, array).
use Rattle.std.specs.Prelude.{ℕ, suc, ◌+◌, ℤ, List, [], ◌∷◌, ◌++◌, length, map, decimal}
use Rattle.std.specs.Int.{w32, w64, cast_unsigned}
use Rattle.byteorder.specs.Endian.{little_bytes}
use Rattle.bson_doc.specs.declared.name.Name.{Name}
use Rattle.bson_doc.specs.declared.value.Document.{Document, Document-F}
use Rattle.bson_doc.specs.declared.value.Value.{Value, Value-F, fold-Value}
use Rattle.bson_doc.specs.declared.value.Value.TheOpen as layer
use Rattle.bson_doc.specs.declared.kind.Kind.{Kind}
use Rattle.bson_doc.specs.declared.kind.Kind.TheVariants as kinds
use Rattle.bson_doc.specs.declared.kind.PlainKind.TheVariants as plain
use Rattle.bson_doc.specs.wire.Kinds.{byte_of}
use Rattle.bson_doc.specs.wire.Spelling.{truth_byte}

-- A number without sign in four bytes, the lowest first: lengths and totals (bsonspec 1.1, int32).
abbrev pub number32 : ℕ → List ℕ
number32 n = little_bytes 4 n

-- A length that counts the final 00, the text, and 00 (bsonspec 1.1, string).
abbrev pub string : List ℕ → List ℕ
string text = number32 (length text + 1) ++ (text ++ 0 ∷ [])

-- How many bytes, the subtype, and the bytes (bsonspec 1.1, binary).
abbrev pub binary : ℕ → List ℕ → List ℕ
binary subtype held = number32 (length held) ++ (subtype ∷ held)

-- Two texts, each with 00 behind (bsonspec 1.1, regular expression).
abbrev pub regex : List ℕ → List ℕ → List ℕ
regex pattern options = pattern ++ 0 ∷ (options ++ 0 ∷ [])

-- A total that counts itself, and the bytes (bsonspec 1.1, code_w_s).
abbrev pub counted : List ℕ → List ℕ
counted bytes = number32 (length bytes + 4) ++ bytes

-- A total that counts itself, a string, and a document (bsonspec 1.1, code_w_s).
abbrev pub scope : List ℕ → List ℕ → List ℕ
scope code inside = counted (code ++ inside)

-- A signed number of eight bytes, the lowest first (bsonspec 1.1, int64).
abbrev pub int64 : ℤ → List ℕ
int64 n = little_bytes 8 (cast_unsigned w64 n)

-- A total that counts itself, the elements, and 00 (bsonspec 1.1, document).
abbrev pub document : List ℕ → List ℕ
document body = number32 (length body + 5) ++ (body ++ 0 ∷ [])

-- What an element says of its value: the kind and the bytes of the payload.
abbrev pub Payload : Type 0
Payload = Kind × List ℕ

-- The type byte, the name, 00 and the payload (bsonspec 1.1, element).
abbrev pub element : List ℕ → Payload → List ℕ
element name v = byte_of v.0 ∷ (name ++ 0 ∷ v.1)

-- Elements one after another, each a name with its payload.
abbrev pub named : List (Name × Payload) → List ℕ
named [] = []
named (e ∷ es) = element e.0 e.1 ++ named es

-- Elements under the names i, i + 1 and so on (bsonspec 1.1, array).
abbrev pub numbered : ℕ → List Payload → List ℕ
numbered i [] = []
numbered i (v ∷ vs) = element (decimal i) v ++ numbered (suc i) vs

-- A value's payload, where the payloads of what lies inside are known.
abbrev pub value_step : Value-F Payload (List ℕ) → Payload
value_step (layer.Double raw) = (kinds.Plain plain.Double, raw)
value_step (layer.Str text) = (kinds.Plain plain.Str, string text)
value_step (layer.Doc inside) = (kinds.Doc, inside)
value_step (layer.Array items) = (kinds.Array, document (numbered 0 items))
value_step (layer.Binary subtype held) = (kinds.Plain plain.Binary, binary subtype held)
value_step layer.Undefined = (kinds.Plain plain.Undefined, [])
value_step (layer.Oid id) = (kinds.Plain plain.Oid, id.0)
value_step (layer.Bool b) = (kinds.Plain plain.Bool, truth_byte b ∷ [])
value_step (layer.Date n) = (kinds.Plain plain.Date, int64 n)
value_step layer.Null = (kinds.Plain plain.Null, [])
value_step (layer.Regex pattern options) = (kinds.Plain plain.Regex, regex pattern options)
value_step (layer.DbPointer space id) = (kinds.Plain plain.DbPointer, string space ++ id.0)
value_step (layer.Code text) = (kinds.Plain plain.Code, string text)
value_step (layer.Symbol text) = (kinds.Plain plain.Symbol, string text)
value_step (layer.Scope code inside) = (kinds.Scope, scope (string code) inside)
value_step (layer.Int32 n) = (kinds.Plain plain.Int32, number32 (cast_unsigned w32 n))
value_step (layer.Stamp n) = (kinds.Plain plain.Stamp, little_bytes 8 n)
value_step (layer.Int64 n) = (kinds.Plain plain.Int64, int64 n)
value_step (layer.Decimal raw) = (kinds.Plain plain.Decimal, raw)
value_step layer.Min = (kinds.Plain plain.Min, [])
value_step layer.Max = (kinds.Plain plain.Max, [])

-- A document's spelling, where the payloads of its values are known.
abbrev pub document_step : Document-F Payload (List ℕ) → List ℕ
document_step d = document (named d.elements)

-- The kind of a value and the bytes of its payload.
unfoldable pub payload : Value → Payload
payload v = fold-Value Payload (List ℕ) value_step document_step v

-- The elements' bytes, one after another.
abbrev pub spelled_elements : List (Name × Value) → List ℕ
spelled_elements [] = []
spelled_elements (e ∷ es) = element e.0 (payload e.1) ++ spelled_elements es

-- The spelling of the document.
abbrev pub spelled : Document → List ℕ
spelled d = document (spelled_elements d.elements)

-- The payload of an array with the items.
abbrev pub spelled_items : List Value → List ℕ
spelled_items items = document (numbered 0 (map payload items))
