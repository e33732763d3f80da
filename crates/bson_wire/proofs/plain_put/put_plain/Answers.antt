use Rattle.std.proofs.Common.{ℕ, List, sym, ap, ◌∙◌}
use Rattle.std.proofs.lemmas.Result.{on_ok_weaker}
use Rattle.std.proofs.lemmas.List.{append-nil}
use Rattle.bson_doc.specs.declared.value.Value.TheVariants as value
use Rattle.bson_wire.proofs.Payloads.{payload-Double, payload-Str, payload-Binary, payload-Undefined, payload-Oid, payload-Bool, payload-Date, payload-Null, payload-Regex, payload-DbPointer, payload-Code, payload-Symbol, payload-Int32, payload-Stamp, payload-Int64, payload-Decimal, payload-Max, payload-Min}
use Rattle.bson_wire.proofs.Written.{OnOk-both}
use Rattle.bson_wire.proofs.PlainWritten.{OnOk-from, truth_is, double_spells, str_spells, binary_spells, undefined_spells, oid_spells, bool_spells, date_spells, null_spells, regex_spells, pointer_spells, code_spells, symbol_spells, int32_spells, stamp_spells, int64_spells, decimal_spells, max_spells, min_spells}
use Rattle.bson_wire.proofs.plain_put.put_plain.Goals as goal

pub returns-in-Double-clause-ok : goal.returns-in-Double-clause-ok
returns-in-Double-clause-ok c = rw (payload-Double c.args.value.now _ c.in-Double.is) c.put_double.ensures.ok

pub returns-in-Double-clause-known : goal.returns-in-Double-clause-known
returns-in-Double-clause-known c = OnOk-from _ (double_spells c.args.value.now _ c.in-Double.is c.put_double.ensures.eight)

pub returns-in-Str-clause-ok : goal.returns-in-Str-clause-ok
returns-in-Str-clause-ok c = rw (payload-Str c.args.value.now _ c.in-Str.is, ← c.as_str.ensures.value) c.put_string.ensures.ok

pub returns-in-Str-clause-long : goal.returns-in-Str-clause-long
returns-in-Str-clause-long c = rw (payload-Str c.args.value.now _ c.in-Str.is, ← c.as_str.ensures.value) c.put_string.ensures.long

pub returns-in-Str-clause-known : goal.returns-in-Str-clause-known
returns-in-Str-clause-known c =
    let is = c.in-Str.is ∙ ap value.Str (sym c.as_str.ensures.value) in
    on_ok_weaker c.put_string.result (λ small. str_spells c.args.value.now c.as_str.result.now is c.as_str.ensures.utf8 small) c.put_string.ensures.size

pub returns-in-Binary-clause-ok : goal.returns-in-Binary-clause-ok
returns-in-Binary-clause-ok c = rw (payload-Binary c.args.value.now _ _ c.in-Binary.is, ← c.as_slice.ensures.value) c.put_binary.ensures.ok

pub returns-in-Binary-clause-long : goal.returns-in-Binary-clause-long
returns-in-Binary-clause-long c = rw (payload-Binary c.args.value.now _ _ c.in-Binary.is, ← c.as_slice.ensures.value) c.put_binary.ensures.long

pub returns-in-Binary-clause-known : goal.returns-in-Binary-clause-known
returns-in-Binary-clause-known c =
    let is = c.in-Binary.is ∙ ap (λ (held : List ℕ). value.Binary c.in-Binary.subtype held) (sym c.as_slice.ensures.value) in
    on_ok_weaker c.put_binary.result (λ small. binary_spells c.args.value.now c.in-Binary.subtype c.as_slice.result.now is small) c.put_binary.ensures.size

pub returns-in-Undefined-clause-ok : goal.returns-in-Undefined-clause-ok
returns-in-Undefined-clause-ok c = rw (payload-Undefined c.args.value.now c.in-Undefined.is) (sym (append-nil c.args.out.now.items))

pub returns-in-Undefined-clause-known : goal.returns-in-Undefined-clause-known
returns-in-Undefined-clause-known c = undefined_spells c.args.value.now c.in-Undefined.is

pub returns-in-Oid-clause-ok : goal.returns-in-Oid-clause-ok
returns-in-Oid-clause-ok c = rw (payload-Oid c.args.value.now _ c.in-Oid.is) c.put_oid.ensures.ok

pub returns-in-Oid-clause-known : goal.returns-in-Oid-clause-known
returns-in-Oid-clause-known c = OnOk-from _ (oid_spells c.args.value.now _ c.in-Oid.is c.put_oid.ensures.twelve)

pub returns-in-Bool-clause-ok : goal.returns-in-Bool-clause-ok
returns-in-Bool-clause-ok c = rw (payload-Bool c.args.value.now _ c.in-Bool.is, ← (c.from.ensures ∙ truth_is c.in-Bool.truth)) c.put_byte.ensures.ok

pub returns-in-Bool-clause-known : goal.returns-in-Bool-clause-known
returns-in-Bool-clause-known c = OnOk-from _ (bool_spells c.args.value.now _ c.in-Bool.is)

pub returns-in-Date-clause-ok : goal.returns-in-Date-clause-ok
returns-in-Date-clause-ok c = rw (payload-Date c.args.value.now _ c.in-Date.is) c.put_int64.ensures.ok

pub returns-in-Date-clause-known : goal.returns-in-Date-clause-known
returns-in-Date-clause-known c = OnOk-from _ (date_spells c.args.value.now _ c.in-Date.is c.put_int64.ensures.fits)

pub returns-in-Null-clause-ok : goal.returns-in-Null-clause-ok
returns-in-Null-clause-ok c = rw (payload-Null c.args.value.now c.in-Null.is) (sym (append-nil c.args.out.now.items))

pub returns-in-Null-clause-known : goal.returns-in-Null-clause-known
returns-in-Null-clause-known c = null_spells c.args.value.now c.in-Null.is

pub returns-in-Regex-clause-ok : goal.returns-in-Regex-clause-ok
returns-in-Regex-clause-ok c = rw (payload-Regex c.args.value.now _ _ c.in-Regex.is) c.put_regex.ensures.ok

pub returns-in-Regex-clause-known : goal.returns-in-Regex-clause-known
returns-in-Regex-clause-known c = OnOk-both c.put_regex.result (λ first second. regex_spells c.args.value.now _ _ c.in-Regex.is first second) c.put_regex.ensures.first c.put_regex.ensures.second

pub returns-in-DbPointer-clause-ok : goal.returns-in-DbPointer-clause-ok
returns-in-DbPointer-clause-ok c = rw (payload-DbPointer c.args.value.now _ _ c.in-DbPointer.is, ← c.as_str-in-DbPointer.ensures.value) c.put_pointer.ensures.ok

pub returns-in-DbPointer-clause-long : goal.returns-in-DbPointer-clause-long
returns-in-DbPointer-clause-long c = rw (payload-DbPointer c.args.value.now _ _ c.in-DbPointer.is, ← c.as_str-in-DbPointer.ensures.value) c.put_pointer.ensures.long

pub returns-in-DbPointer-clause-known : goal.returns-in-DbPointer-clause-known
returns-in-DbPointer-clause-known c =
    let is = c.in-DbPointer.is ∙ ap (λ (text : List ℕ). value.DbPointer text c.in-DbPointer.oid) (sym c.as_str-in-DbPointer.ensures.value) in
    OnOk-both c.put_pointer.result (λ small twelve. pointer_spells c.args.value.now c.as_str-in-DbPointer.result.now c.in-DbPointer.oid is c.as_str-in-DbPointer.ensures.utf8 small twelve) c.put_pointer.ensures.size c.put_pointer.ensures.twelve

pub returns-in-Code-clause-ok : goal.returns-in-Code-clause-ok
returns-in-Code-clause-ok c = rw (payload-Code c.args.value.now _ c.in-Code.is, ← c.as_str-in-Code.ensures.value) c.put_string-in-Code.ensures.ok

pub returns-in-Code-clause-long : goal.returns-in-Code-clause-long
returns-in-Code-clause-long c = rw (payload-Code c.args.value.now _ c.in-Code.is, ← c.as_str-in-Code.ensures.value) c.put_string-in-Code.ensures.long

pub returns-in-Code-clause-known : goal.returns-in-Code-clause-known
returns-in-Code-clause-known c =
    let is = c.in-Code.is ∙ ap value.Code (sym c.as_str-in-Code.ensures.value) in
    on_ok_weaker c.put_string-in-Code.result (λ small. code_spells c.args.value.now c.as_str-in-Code.result.now is c.as_str-in-Code.ensures.utf8 small) c.put_string-in-Code.ensures.size

pub returns-in-Symbol-clause-ok : goal.returns-in-Symbol-clause-ok
returns-in-Symbol-clause-ok c = rw (payload-Symbol c.args.value.now _ c.in-Symbol.is, ← c.as_str-in-Symbol.ensures.value) c.put_string-in-Symbol.ensures.ok

pub returns-in-Symbol-clause-long : goal.returns-in-Symbol-clause-long
returns-in-Symbol-clause-long c = rw (payload-Symbol c.args.value.now _ c.in-Symbol.is, ← c.as_str-in-Symbol.ensures.value) c.put_string-in-Symbol.ensures.long

pub returns-in-Symbol-clause-known : goal.returns-in-Symbol-clause-known
returns-in-Symbol-clause-known c =
    let is = c.in-Symbol.is ∙ ap value.Symbol (sym c.as_str-in-Symbol.ensures.value) in
    on_ok_weaker c.put_string-in-Symbol.result (λ small. symbol_spells c.args.value.now c.as_str-in-Symbol.result.now is c.as_str-in-Symbol.ensures.utf8 small) c.put_string-in-Symbol.ensures.size

pub returns-in-Int32-clause-ok : goal.returns-in-Int32-clause-ok
returns-in-Int32-clause-ok c = rw (payload-Int32 c.args.value.now _ c.in-Int32.is) c.put_int32.ensures.ok

pub returns-in-Int32-clause-known : goal.returns-in-Int32-clause-known
returns-in-Int32-clause-known c = OnOk-from _ (int32_spells c.args.value.now _ c.in-Int32.is c.put_int32.ensures.fits)

pub returns-in-Stamp-clause-ok : goal.returns-in-Stamp-clause-ok
returns-in-Stamp-clause-ok c = rw (payload-Stamp c.args.value.now _ c.in-Stamp.is) c.put_stamp.ensures.ok

pub returns-in-Stamp-clause-known : goal.returns-in-Stamp-clause-known
returns-in-Stamp-clause-known c = OnOk-from _ (stamp_spells c.args.value.now _ c.in-Stamp.is c.put_stamp.ensures.fits)

pub returns-in-Int64-clause-ok : goal.returns-in-Int64-clause-ok
returns-in-Int64-clause-ok c = rw (payload-Int64 c.args.value.now _ c.in-Int64.is) c.put_int64-in-Int64.ensures.ok

pub returns-in-Int64-clause-known : goal.returns-in-Int64-clause-known
returns-in-Int64-clause-known c = OnOk-from _ (int64_spells c.args.value.now _ c.in-Int64.is c.put_int64-in-Int64.ensures.fits)

pub returns-in-Decimal-clause-ok : goal.returns-in-Decimal-clause-ok
returns-in-Decimal-clause-ok c = rw (payload-Decimal c.args.value.now _ c.in-Decimal.is) c.put_decimal.ensures.ok

pub returns-in-Decimal-clause-known : goal.returns-in-Decimal-clause-known
returns-in-Decimal-clause-known c = OnOk-from _ (decimal_spells c.args.value.now _ c.in-Decimal.is c.put_decimal.ensures.sixteen)

pub returns-in-Max-clause-ok : goal.returns-in-Max-clause-ok
returns-in-Max-clause-ok c = rw (payload-Max c.args.value.now c.in-Max.is) (sym (append-nil c.args.out.now.items))

pub returns-in-Max-clause-known : goal.returns-in-Max-clause-known
returns-in-Max-clause-known c = max_spells c.args.value.now c.in-Max.is

pub returns-in-Min-clause-ok : goal.returns-in-Min-clause-ok
returns-in-Min-clause-ok c = rw (payload-Min c.args.value.now c.in-Min.is) (sym (append-nil c.args.out.now.items))

pub returns-in-Min-clause-known : goal.returns-in-Min-clause-known
returns-in-Min-clause-known c = min_spells c.args.value.now c.in-Min.is
