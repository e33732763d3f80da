-- The kinds of values and their type bytes (bsonspec 1.1, element).
use Rattle.std.specs.Prelude.{ℕ, ◌==◌, if◌then◌else◌, Option, Some, None}
use Rattle.bson_doc.specs.declared.kind.Kind.{Kind}
use Rattle.bson_doc.specs.declared.kind.Kind.TheVariants as kinds
use Rattle.bson_doc.specs.declared.kind.PlainKind.TheVariants as plain

-- The type byte of a kind.
abbrev pub byte_of : Kind → ℕ
byte_of (kinds.Plain plain.Double) = 0x01
byte_of (kinds.Plain plain.Str) = 0x02
byte_of kinds.Doc = 0x03
byte_of kinds.Array = 0x04
byte_of (kinds.Plain plain.Binary) = 0x05
byte_of (kinds.Plain plain.Undefined) = 0x06
byte_of (kinds.Plain plain.Oid) = 0x07
byte_of (kinds.Plain plain.Bool) = 0x08
byte_of (kinds.Plain plain.Date) = 0x09
byte_of (kinds.Plain plain.Null) = 0x0a
byte_of (kinds.Plain plain.Regex) = 0x0b
byte_of (kinds.Plain plain.DbPointer) = 0x0c
byte_of (kinds.Plain plain.Code) = 0x0d
byte_of (kinds.Plain plain.Symbol) = 0x0e
byte_of kinds.Scope = 0x0f
byte_of (kinds.Plain plain.Int32) = 0x10
byte_of (kinds.Plain plain.Stamp) = 0x11
byte_of (kinds.Plain plain.Int64) = 0x12
byte_of (kinds.Plain plain.Decimal) = 0x13
byte_of (kinds.Plain plain.Max) = 0x7f
byte_of (kinds.Plain plain.Min) = 0xff

-- The kind that has the type byte.
abbrev pub kind_of_byte : ℕ → Option Kind
kind_of_byte b =
    if b == 0x01 then Some (kinds.Plain plain.Double) else
    if b == 0x02 then Some (kinds.Plain plain.Str) else
    if b == 0x03 then Some kinds.Doc else
    if b == 0x04 then Some kinds.Array else
    if b == 0x05 then Some (kinds.Plain plain.Binary) else
    if b == 0x06 then Some (kinds.Plain plain.Undefined) else
    if b == 0x07 then Some (kinds.Plain plain.Oid) else
    if b == 0x08 then Some (kinds.Plain plain.Bool) else
    if b == 0x09 then Some (kinds.Plain plain.Date) else
    if b == 0x0a then Some (kinds.Plain plain.Null) else
    if b == 0x0b then Some (kinds.Plain plain.Regex) else
    if b == 0x0c then Some (kinds.Plain plain.DbPointer) else
    if b == 0x0d then Some (kinds.Plain plain.Code) else
    if b == 0x0e then Some (kinds.Plain plain.Symbol) else
    if b == 0x0f then Some kinds.Scope else
    if b == 0x10 then Some (kinds.Plain plain.Int32) else
    if b == 0x11 then Some (kinds.Plain plain.Stamp) else
    if b == 0x12 then Some (kinds.Plain plain.Int64) else
    if b == 0x13 then Some (kinds.Plain plain.Decimal) else
    if b == 0x7f then Some (kinds.Plain plain.Max) else
    if b == 0xff then Some (kinds.Plain plain.Min) else
    None
