-- Which bytes spell a document: a relation by cases on the kinds, over whole byte strings (bsonspec 1.1). No place and
-- no order of reading stands here.
use Rattle.std.specs.Prelude.{◌≡◌, ℕ, zero, suc, ◌+◌, ◌≤◌, Bool, List, [], ◌∷◌, ◌++◌, length, map, IsUtf8, if◌then◌else◌}
use Rattle.std.specs.Int.{w32, w64, cast_signed}
use Rattle.byteorder.specs.Endian.{little_number}
use Rattle.bson_doc.specs.Names.{HasNoZero}
use Rattle.bson_doc.specs.declared.name.Name.{Name}
use Rattle.bson_doc.specs.declared.value.Document.{Document}
use Rattle.bson_doc.specs.declared.value.Value.{Value, Value-F, out-Value}
use Rattle.bson_doc.specs.declared.value.Value.TheOpen as layer
use Rattle.bson_doc.specs.declared.kind.Kind.{Kind}
use Rattle.bson_doc.specs.declared.kind.Kind.TheVariants as kinds
use Rattle.bson_doc.specs.declared.kind.PlainKind.TheVariants as plain
use Rattle.bson_doc.specs.wire.Kinds.{byte_of}
use Rattle.bson_doc.specs.wire.Limits.{most_bytes, most_levels}

-- Four bytes, the lowest first, that read without sign as the number: lengths and totals (bsonspec 1.1, int32; none of
-- them is negative).
pub record IsNumber32 (bytes : List ℕ) (n : ℕ) : Type 0 where
  pub size : length bytes ≡ 4
  pub reads : little_number 4 bytes ≡ n

-- A length that counts the final 00, a text in UTF-8, and 00 (bsonspec 1.1, string).
pub record IsString (bytes text : List ℕ) : Type 0 where
  pub number : List ℕ
  pub counts : IsNumber32 number (length text + 1)
  pub parts : bytes ≡ number ++ (text ++ 0 ∷ [])
  pub utf8 : IsUtf8 text

-- A text in UTF-8 without 00 (bsonspec 1.1, cstring; its final 00 is not counted in).
pub record IsName (name : List ℕ) : Type 0 where
  pub no_zero : HasNoZero name
  pub utf8 : IsUtf8 name

-- How many bytes it holds, the subtype, and the bytes (bsonspec 1.1, binary). Any subtype is one.
pub record IsBinary (bytes : List ℕ) (subtype : ℕ) (held : List ℕ) : Type 0 where
  pub number : List ℕ
  pub counts : IsNumber32 number (length held)
  pub parts : bytes ≡ number ++ (subtype ∷ held)

-- The pattern and the options, each with 00 behind (bsonspec 1.1, regular expression).
pub record IsRegex (bytes pattern options : List ℕ) : Type 0 where
  pub parts : bytes ≡ pattern ++ 0 ∷ (options ++ 0 ∷ [])
  pub first : IsName pattern
  pub second : IsName options

-- A string and twelve bytes (bsonspec 1.1, DBPointer).
pub record IsDbPointer (bytes space id : List ℕ) : Type 0 where
  pub string : List ℕ
  pub parts : bytes ≡ string ++ id
  pub text : IsString string space
  pub size : length id ≡ 12

-- The values of some elements, without their names.
abbrev pub values : List (Name × Value) → List Value
values elements = map (λ e. e.1) elements

-- A truth value is the byte 01 or 00 (bsonspec 1.1, boolean).
abbrev pub truth_byte : Bool → ℕ
truth_byte b = if b then 1 else 0

-- An array is spelled as some document with the array's values, under any names (own: the standard numbers the names,
-- and readers do not look at them).
pub record IsArray (Inner : List ℕ → Document → Type 0) (bytes : List ℕ) (items : List Value) : Type 0 where
  pub document : Document
  pub inner : Inner bytes document
  pub same : values document.elements ≡ items

-- A total that counts itself, a string, and a document (bsonspec 1.1, code_w_s).
pub record IsScope (Inner : List ℕ → Document → Type 0) (bytes code : List ℕ) (scope : Document) : Type 0 where
  pub number : List ℕ
  pub string : List ℕ
  pub document : List ℕ
  pub counts : IsNumber32 number (length string + length document + 4)
  pub parts : bytes ≡ number ++ (string ++ document)
  pub text : IsString string code
  pub inner : Inner document scope

-- A value's kind and the bytes of its payload (bsonspec 1.1, element). Inner says which bytes spell a document inside.
abbrev pub IsPayload : (List ℕ → Document → Type 0) → Kind → List ℕ → Value-F Value Document → Type 0
IsPayload Inner kind bytes (layer.Double raw) = (kind ≡ kinds.Plain plain.Double) × (length bytes ≡ 8) × (bytes ≡ raw)
IsPayload Inner kind bytes (layer.Str text) = (kind ≡ kinds.Plain plain.Str) × IsString bytes text
IsPayload Inner kind bytes (layer.Doc inside) = (kind ≡ kinds.Doc) × Inner bytes inside
IsPayload Inner kind bytes (layer.Array items) = (kind ≡ kinds.Array) × IsArray Inner bytes items
IsPayload Inner kind bytes (layer.Binary subtype held) = (kind ≡ kinds.Plain plain.Binary) × IsBinary bytes subtype held
IsPayload Inner kind bytes layer.Undefined = (kind ≡ kinds.Plain plain.Undefined) × (bytes ≡ [])
IsPayload Inner kind bytes (layer.Oid id) = (kind ≡ kinds.Plain plain.Oid) × (length bytes ≡ 12) × (bytes ≡ id.0)
IsPayload Inner kind bytes (layer.Bool b) = (kind ≡ kinds.Plain plain.Bool) × (bytes ≡ truth_byte b ∷ [])
IsPayload Inner kind bytes (layer.Date n) =
    (kind ≡ kinds.Plain plain.Date) × (length bytes ≡ 8) × (cast_signed w64 (little_number 8 bytes) ≡ n)
IsPayload Inner kind bytes layer.Null = (kind ≡ kinds.Plain plain.Null) × (bytes ≡ [])
IsPayload Inner kind bytes (layer.Regex pattern options) = (kind ≡ kinds.Plain plain.Regex) × IsRegex bytes pattern options
IsPayload Inner kind bytes (layer.DbPointer space id) = (kind ≡ kinds.Plain plain.DbPointer) × IsDbPointer bytes space id.0
IsPayload Inner kind bytes (layer.Code text) = (kind ≡ kinds.Plain plain.Code) × IsString bytes text
IsPayload Inner kind bytes (layer.Symbol text) = (kind ≡ kinds.Plain plain.Symbol) × IsString bytes text
IsPayload Inner kind bytes (layer.Scope code scope) = (kind ≡ kinds.Scope) × IsScope Inner bytes code scope
IsPayload Inner kind bytes (layer.Int32 n) =
    (kind ≡ kinds.Plain plain.Int32) × (length bytes ≡ 4) × (cast_signed w32 (little_number 4 bytes) ≡ n)
IsPayload Inner kind bytes (layer.Stamp n) = (kind ≡ kinds.Plain plain.Stamp) × (length bytes ≡ 8) × (little_number 8 bytes ≡ n)
IsPayload Inner kind bytes (layer.Int64 n) =
    (kind ≡ kinds.Plain plain.Int64) × (length bytes ≡ 8) × (cast_signed w64 (little_number 8 bytes) ≡ n)
IsPayload Inner kind bytes (layer.Decimal raw) = (kind ≡ kinds.Plain plain.Decimal) × (length bytes ≡ 16) × (bytes ≡ raw)
IsPayload Inner kind bytes layer.Min = (kind ≡ kinds.Plain plain.Min) × (bytes ≡ [])
IsPayload Inner kind bytes layer.Max = (kind ≡ kinds.Plain plain.Max) × (bytes ≡ [])

-- The kind's type byte, the name, 00 and the payload (bsonspec 1.1, element).
pub record IsElement (Inner : List ℕ → Document → Type 0) (bytes : List ℕ) (e : Name × Value) : Type 0 where
  pub kind : Kind
  pub payload : List ℕ
  pub parts : bytes ≡ byte_of kind ∷ (e.0 ++ 0 ∷ payload)
  pub name : IsName e.0
  pub value : IsPayload Inner kind payload (out-Value e.1)

-- One element after another (bsonspec 1.1, e_list).
abbrev pub AreElements : (List ℕ → Document → Type 0) → List ℕ → List (Name × Value) → Type 0
AreElements Inner bytes [] = bytes ≡ []
AreElements Inner bytes (e ∷ es) =
    (first others : List ℕ) × (bytes ≡ first ++ others) × IsElement Inner first e × AreElements Inner others es

-- A total that counts itself, the elements, and 00 (bsonspec 1.1, document).
pub record IsDocument (Inner : List ℕ → Document → Type 0) (bytes : List ℕ) (document : Document) : Type 0 where
  pub number : List ℕ
  pub body : List ℕ
  pub counts : IsNumber32 number (length body + 5)
  pub parts : bytes ≡ number ++ (body ++ 0 ∷ [])
  pub elements : AreElements Inner body document.elements

-- The bytes spell the document, and documents and arrays lie at most so many levels deep in it; the document itself is
-- the first level.
unfoldable pub SpellsWithin : ℕ → List ℕ → Document → Type 0
SpellsWithin zero bytes document = ⊥
SpellsWithin (suc levels) bytes document = IsDocument (SpellsWithin levels) bytes document

-- The bytes spell the document (bsonspec 1.1, document; own: at most 100 levels and 48,000,000 bytes). The least total
-- is 5, since it counts itself and 00.
pub record Spells (bytes : List ℕ) (document : Document) : Type 0 where
  pub within : SpellsWithin most_levels bytes document
  pub size : length bytes ≤ most_bytes
