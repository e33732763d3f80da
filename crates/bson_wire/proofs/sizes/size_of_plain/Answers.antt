use Rattle.std.proofs.Common.{refl, ap, arith, length}
use Rattle.bson_wire.proofs.Payloads.{payload-Double, payload-Str, payload-Binary, payload-Undefined, payload-Oid, payload-Bool, payload-Date, payload-Null, payload-Regex, payload-DbPointer, payload-Code, payload-Symbol, payload-Int32, payload-Stamp, payload-Int64, payload-Decimal, payload-Max, payload-Min}
use Rattle.bson_wire.proofs.Lengths.{length-regex, length-pointer, length-string}
use Rattle.bson_wire.proofs.sizes.size_of_plain.Goals as goal

pub returns-in-Undefined : goal.returns-in-Undefined
returns-in-Undefined c = rw (payload-Undefined _ c.in-Undefined.is) refl

pub returns-in-Null : goal.returns-in-Null
returns-in-Null c = rw (payload-Null _ c.in-Null.is) refl

pub returns-in-Max : goal.returns-in-Max
returns-in-Max c = rw (payload-Max _ c.in-Max.is) refl

pub returns-in-Min : goal.returns-in-Min
returns-in-Min c = rw (payload-Min _ c.in-Min.is) refl

pub returns-in-Bool : goal.returns-in-Bool
returns-in-Bool c = rw (payload-Bool _ _ c.in-Bool.is) refl

pub returns-in-Int32 : goal.returns-in-Int32
returns-in-Int32 c = rw (payload-Int32 _ _ c.in-Int32.is) refl

pub returns-in-Date : goal.returns-in-Date
returns-in-Date c = rw (payload-Date _ _ c.in-Date.is) refl

pub returns-in-Stamp : goal.returns-in-Stamp
returns-in-Stamp c = rw (payload-Stamp _ _ c.in-Stamp.is) refl

pub returns-in-Int64 : goal.returns-in-Int64
returns-in-Int64 c = rw (payload-Int64 _ _ c.in-Int64.is) refl

pub returns-in-Double : goal.returns-in-Double
returns-in-Double c = rw (payload-Double _ _ c.in-Double.is) (omega (arith, c.size_of_double.ensures))

pub returns-in-Oid : goal.returns-in-Oid
returns-in-Oid c = rw (payload-Oid _ _ c.in-Oid.is) (omega (arith, c.size_of_oid.ensures))

pub returns-in-Decimal : goal.returns-in-Decimal
returns-in-Decimal c = rw (payload-Decimal _ _ c.in-Decimal.is) (omega (arith, c.size_of_decimal.ensures))

pub returns-in-Str : goal.returns-in-Str
returns-in-Str c = rw (payload-Str _ _ c.in-Str.is, ← c.as_str.ensures.value) c.size_of_text.ensures

pub returns-in-Code : goal.returns-in-Code
returns-in-Code c = rw (payload-Code _ _ c.in-Code.is, ← c.as_str-in-Code.ensures.value) c.size_of_text-in-Code.ensures

pub returns-in-Symbol : goal.returns-in-Symbol
returns-in-Symbol c = rw (payload-Symbol _ _ c.in-Symbol.is, ← c.as_str-in-Symbol.ensures.value) c.size_of_text-in-Symbol.ensures

pub returns-in-DbPointer : goal.returns-in-DbPointer
returns-in-DbPointer c = rw (payload-DbPointer _ _ _ c.in-DbPointer.is)
    (omega (arith, length-pointer c.in-DbPointer.space c.in-DbPointer.oid.0, length-string c.as_str-in-DbPointer.result.now, ap length c.as_str-in-DbPointer.ensures.value))

pub returns-in-Binary : goal.returns-in-Binary
returns-in-Binary c = rw (payload-Binary _ _ _ c.in-Binary.is) (omega arith)

pub returns-in-Regex : goal.returns-in-Regex
returns-in-Regex c = rw (payload-Regex _ _ _ c.in-Regex.is)
    (omega (arith, length-regex c.in-Regex.pattern c.in-Regex.options, ap length c.as_str-in-Regex.ensures.value, ap length c.as_str-in-Regex-2.ensures.value))
