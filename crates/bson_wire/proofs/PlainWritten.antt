-- What is written of a value that holds no document spells it.
use Rattle.std.proofs.Common.{◌≡◌, ℕ, ℤ, ◌+◌, ◌^◌, ◌<◌, ◌≤◌, Bool, true, false, List, [], ◌∷◌, length, Result, Ok, Err, refl, ap, ◌∙◌, arith}
use Rattle.std.specs.Prelude.{IsUtf8, FitsSigned, OnOk}
use Rattle.std.specs.Int.{w32, w64, cast_signed, cast_unsigned, from_bool}
use Rattle.std.proofs.Math.Facts.{Fits-of_z}
use Rattle.std.proofs.lemmas.Int.{to_z-of_z}
use Rattle.std.proofs.lemmas.List.{length-append}
use Rattle.byteorder.specs.Endian.{little_number}
use Rattle.byteorder.specs.Numbers.{little_number-reads_back}
use Rattle.bson_doc.specs.Documents.{depth_inside}
use Rattle.bson_doc.specs.declared.ids.Oid.{Oid}
use Rattle.bson_doc.specs.declared.name.Name.{Name}
use Rattle.bson_doc.specs.declared.value.Document.{Document}
use Rattle.bson_doc.specs.declared.value.Value.{Value, Value-F, out-Value}
use Rattle.bson_doc.specs.declared.value.Value.TheVariants as value
use Rattle.bson_doc.specs.declared.value.Value.TheVariants.{outs-Double, outs-Str, outs-Code, outs-Symbol, outs-Binary, outs-Undefined, outs-Oid, outs-Bool, outs-Date, outs-Null, outs-Regex, outs-DbPointer, outs-Int32, outs-Stamp, outs-Int64, outs-Decimal, outs-Max, outs-Min}
use Rattle.bson_doc.specs.wire.Spelling.{IsNumber32, IsString, IsName, IsPayload, SpellsWithin, truth_byte}
use Rattle.bson_doc.specs.wire.Spelled.{Payload, number32, int64, string, binary, payload}
use Rattle.bson_doc.specs.wire.Reading.{int64_of}
use Rattle.bson_wire.specs.Written.{PayloadSpells}
use Rattle.bson_wire.proofs.Payloads.{payload-Double, payload-Str, payload-Code, payload-Symbol, payload-Binary, payload-Undefined, payload-Oid, payload-Bool, payload-Date, payload-Null, payload-Regex, payload-DbPointer, payload-Int32, payload-Stamp, payload-Int64, payload-Decimal, payload-Max, payload-Min}

pub OnOk-from : {T E P : Type 0} (r : Result T E) → P → OnOk r P
OnOk-from (Ok x) p = p
OnOk-from (Err e) p = tt

pub spells_by : (v : Value) (p : Payload) (w : Value-F Value Document) → payload v ≡ p → out-Value v ≡ w → ((levels : ℕ) → depth_inside v ≤ levels → IsPayload (SpellsWithin levels) p.0 p.1 w) → PayloadSpells v
spells_by v p w e k h = λ levels deep. rw (e, k) (h levels deep)

-- ---- numbers, texts and truth values

pub number32_is : (n : ℕ) → n < 2 ^ 32 → IsNumber32 (number32 n) n
number32_is n lt = record { size = refl; reads = little_number-reads_back 4 n [] lt }

int64_reads : (n : ℤ) → FitsSigned w64 n → int64_of (int64 n) ≡ n
int64_reads n fits =
    let same : little_number 8 (int64 n) ≡ cast_unsigned w64 n = little_number-reads_back 8 (cast_unsigned w64 n) [] (omega (arith, Fits-of_z fits)) in
    ap (cast_signed w64) same ∙ to_z-of_z w64 n fits

pub is_string : (text : List ℕ) → IsUtf8 text → length (string text) ≤ 48000000 → IsString (string text) text
is_string text utf8 small =
    let size : length (string text) ≡ length text + 5 = omega (arith, length-append text (0 ∷ [])) in
    record { number = number32 (length text + 1); counts = number32_is (length text + 1) (omega (arith, size)); parts = refl; utf8 = utf8 }

pub truth_is : (b : Bool) → from_bool b ≡ truth_byte b
truth_is true = refl
truth_is false = refl

-- ---- values, by their kind

pub double_spells : (v : Value) (raw : List ℕ) → v ≡ value.Double raw → length raw ≡ 8 → PayloadSpells v
double_spells v raw e eight = spells_by v _ _ (payload-Double v raw e) (ap out-Value e ∙ outs-Double raw) (λ levels deep. (refl, eight, refl))

pub str_spells : (v : Value) (text : List ℕ) → v ≡ value.Str text → IsUtf8 text → length (string text) ≤ 48000000 → PayloadSpells v
str_spells v text e utf8 small = spells_by v _ _ (payload-Str v text e) (ap out-Value e ∙ outs-Str text) (λ levels deep. (refl, is_string text utf8 small))

pub code_spells : (v : Value) (text : List ℕ) → v ≡ value.Code text → IsUtf8 text → length (string text) ≤ 48000000 → PayloadSpells v
code_spells v text e utf8 small = spells_by v _ _ (payload-Code v text e) (ap out-Value e ∙ outs-Code text) (λ levels deep. (refl, is_string text utf8 small))

pub symbol_spells : (v : Value) (text : List ℕ) → v ≡ value.Symbol text → IsUtf8 text → length (string text) ≤ 48000000 → PayloadSpells v
symbol_spells v text e utf8 small = spells_by v _ _ (payload-Symbol v text e) (ap out-Value e ∙ outs-Symbol text) (λ levels deep. (refl, is_string text utf8 small))

pub binary_spells : (v : Value) (subtype : ℕ) (held : List ℕ) → v ≡ value.Binary subtype held → length (binary subtype held) ≤ 48000000 → PayloadSpells v
binary_spells v subtype held e small = spells_by v _ _ (payload-Binary v subtype held e) (ap out-Value e ∙ outs-Binary subtype held) (λ levels deep. (refl, record { number = number32 (length held); counts = number32_is (length held) (omega arith); parts = refl }))

pub undefined_spells : (v : Value) → v ≡ value.Undefined → PayloadSpells v
undefined_spells v e = spells_by v _ _ (payload-Undefined v e) (ap out-Value e ∙ outs-Undefined) (λ levels deep. (refl, refl))

pub oid_spells : (v : Value) (id : Oid) → v ≡ value.Oid id → length id.0 ≡ 12 → PayloadSpells v
oid_spells v id e twelve = spells_by v _ _ (payload-Oid v id e) (ap out-Value e ∙ outs-Oid id) (λ levels deep. (refl, twelve, refl))

pub bool_spells : (v : Value) (b : Bool) → v ≡ value.Bool b → PayloadSpells v
bool_spells v b e = spells_by v _ _ (payload-Bool v b e) (ap out-Value e ∙ outs-Bool b) (λ levels deep. (refl, refl))

pub date_spells : (v : Value) (n : ℤ) → v ≡ value.Date n → FitsSigned w64 n → PayloadSpells v
date_spells v n e fits = spells_by v _ _ (payload-Date v n e) (ap out-Value e ∙ outs-Date n) (λ levels deep. (refl, refl, int64_reads n fits))

pub null_spells : (v : Value) → v ≡ value.Null → PayloadSpells v
null_spells v e = spells_by v _ _ (payload-Null v e) (ap out-Value e ∙ outs-Null) (λ levels deep. (refl, refl))

pub regex_spells : (v : Value) (pattern : Name) (options : Name) → v ≡ value.Regex pattern options → IsName pattern → IsName options → PayloadSpells v
regex_spells v pattern options e first second = spells_by v _ _ (payload-Regex v pattern options e) (ap out-Value e ∙ outs-Regex pattern options) (λ levels deep. (refl, record { parts = refl; first = first; second = second }))

pub pointer_spells : (v : Value) (space : List ℕ) (id : Oid) → v ≡ value.DbPointer space id → IsUtf8 space → length (string space) ≤ 48000000 → length id.0 ≡ 12 → PayloadSpells v
pointer_spells v space id e utf8 small twelve = spells_by v _ _ (payload-DbPointer v space id e) (ap out-Value e ∙ outs-DbPointer space id) (λ levels deep. (refl, record { string = string space; parts = refl; text = is_string space utf8 small; size = twelve }))

pub int32_spells : (v : Value) (n : ℤ) → v ≡ value.Int32 n → FitsSigned w32 n → PayloadSpells v
int32_spells v n e fits =
    let same : little_number 4 (number32 (cast_unsigned w32 n)) ≡ cast_unsigned w32 n = little_number-reads_back 4 (cast_unsigned w32 n) [] (omega (arith, Fits-of_z fits)) in
    spells_by v _ _ (payload-Int32 v n e) (ap out-Value e ∙ outs-Int32 n) (λ levels deep. (refl, refl, ap (cast_signed w32) same ∙ to_z-of_z w32 n fits))

pub stamp_spells : (v : Value) (n : ℕ) → v ≡ value.Stamp n → n < 2 ^ 64 → PayloadSpells v
stamp_spells v n e fits = spells_by v _ _ (payload-Stamp v n e) (ap out-Value e ∙ outs-Stamp n) (λ levels deep. (refl, refl, little_number-reads_back 8 n [] (omega arith)))

pub int64_spells : (v : Value) (n : ℤ) → v ≡ value.Int64 n → FitsSigned w64 n → PayloadSpells v
int64_spells v n e fits = spells_by v _ _ (payload-Int64 v n e) (ap out-Value e ∙ outs-Int64 n) (λ levels deep. (refl, refl, int64_reads n fits))

pub decimal_spells : (v : Value) (raw : List ℕ) → v ≡ value.Decimal raw → length raw ≡ 16 → PayloadSpells v
decimal_spells v raw e sixteen = spells_by v _ _ (payload-Decimal v raw e) (ap out-Value e ∙ outs-Decimal raw) (λ levels deep. (refl, sixteen, refl))

pub max_spells : (v : Value) → v ≡ value.Max → PayloadSpells v
max_spells v e = spells_by v _ _ (payload-Max v e) (ap out-Value e ∙ outs-Max) (λ levels deep. (refl, refl))

pub min_spells : (v : Value) → v ≡ value.Min → PayloadSpells v
min_spells v e = spells_by v _ _ (payload-Min v e) (ap out-Value e ∙ outs-Min) (λ levels deep. (refl, refl))
