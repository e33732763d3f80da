-- The payload of a value by its variant.
use Rattle.std.proofs.Common.{◌≡◌, ℕ, ℤ, Bool, List, [], ◌∷◌, ◌++◌, map, refl, ap, ◌∙◌}
use Rattle.std.specs.Int.{w32, cast_unsigned}
use Rattle.byteorder.specs.Endian.{little_bytes}
use Rattle.bson_doc.specs.declared.ids.Oid.{Oid}
use Rattle.bson_doc.specs.declared.name.Name.{Name}
use Rattle.bson_doc.specs.declared.value.Document.{Document, fold-Document, fold_out-Document}
use Rattle.bson_doc.specs.declared.value.Value.{Value, Value-F, map-Value, fold_out-Value, out-Value}
use Rattle.bson_doc.specs.declared.value.Value.TheVariants as value
use Rattle.bson_doc.specs.declared.value.Value.TheVariants.{outs-Double, outs-Str, outs-Doc, outs-Array, outs-Binary, outs-Undefined, outs-Oid, outs-Bool, outs-Date, outs-Null, outs-Regex, outs-DbPointer, outs-Code, outs-Symbol, outs-Scope, outs-Int32, outs-Stamp, outs-Int64, outs-Decimal, outs-Max, outs-Min}
use Rattle.bson_doc.specs.declared.kind.Kind.TheVariants as kinds
use Rattle.bson_doc.specs.declared.kind.PlainKind.TheVariants as plain
use Rattle.bson_doc.specs.wire.Spelling.{truth_byte}
use Rattle.bson_doc.specs.wire.Spelled.{Payload, number32, int64, string, binary, regex, scope, document, element, named, numbered, value_step, document_step, payload, spelled_elements, spelled}

abbrev spelled_by_fold : Document → List ℕ
spelled_by_fold = fold-Document Payload (List ℕ) value_step document_step

by_layer : (v : Value) (w : Value-F Value Document) → out-Value v ≡ w → payload v ≡ value_step (map-Value Value Document Payload (List ℕ) payload spelled_by_fold w)
unfolding payload
by_layer v w e = fold_out-Value Payload (List ℕ) value_step document_step v ∙ ap (λ u. value_step (map-Value Value Document Payload (List ℕ) payload spelled_by_fold u)) e

named-map : (es : List (Name × Value)) → named (map (λ e. (e.0, payload e.1)) es) ≡ spelled_elements es
named-map [] = refl
named-map (e ∷ es) = ap (λ (xs : List ℕ). element e.0 (payload e.1) ++ xs) (named-map es)

spelled_is_fold : (d : Document) → spelled_by_fold d ≡ spelled d
unfolding payload
spelled_is_fold d = fold_out-Document Payload (List ℕ) value_step document_step d ∙ ap document (named-map d.elements)

pub payload-Double : (v : Value) (raw : List ℕ) → v ≡ value.Double raw → payload v ≡ (kinds.Plain plain.Double, raw)
payload-Double v raw e = by_layer v _ (ap out-Value e ∙ outs-Double raw)

pub payload-Str : (v : Value) (text : List ℕ) → v ≡ value.Str text → payload v ≡ (kinds.Plain plain.Str, string text)
payload-Str v text e = by_layer v _ (ap out-Value e ∙ outs-Str text)

pub payload-Doc : (v : Value) (d : Document) → v ≡ value.Doc d → payload v ≡ (kinds.Doc, spelled d)
payload-Doc v d e = by_layer v _ (ap out-Value e ∙ outs-Doc d) ∙ ap (λ (bytes : List ℕ). (kinds.Doc, bytes)) (spelled_is_fold d)

pub payload-Array : (v : Value) (items : List Value) → v ≡ value.Array items → payload v ≡ (kinds.Array, document (numbered 0 (map payload items)))
payload-Array v items e = by_layer v _ (ap out-Value e ∙ outs-Array items)

pub payload-Binary : (v : Value) (subtype : ℕ) (held : List ℕ) → v ≡ value.Binary subtype held → payload v ≡ (kinds.Plain plain.Binary, binary subtype held)
payload-Binary v subtype held e = by_layer v _ (ap out-Value e ∙ outs-Binary subtype held)

pub payload-Undefined : (v : Value) → v ≡ value.Undefined → payload v ≡ (kinds.Plain plain.Undefined, [])
payload-Undefined v e = by_layer v _ (ap out-Value e ∙ outs-Undefined)

pub payload-Oid : (v : Value) (id : Oid) → v ≡ value.Oid id → payload v ≡ (kinds.Plain plain.Oid, id.0)
payload-Oid v id e = by_layer v _ (ap out-Value e ∙ outs-Oid id)

pub payload-Bool : (v : Value) (b : Bool) → v ≡ value.Bool b → payload v ≡ (kinds.Plain plain.Bool, truth_byte b ∷ [])
payload-Bool v b e = by_layer v _ (ap out-Value e ∙ outs-Bool b)

pub payload-Date : (v : Value) (n : ℤ) → v ≡ value.Date n → payload v ≡ (kinds.Plain plain.Date, int64 n)
payload-Date v n e = by_layer v _ (ap out-Value e ∙ outs-Date n)

pub payload-Null : (v : Value) → v ≡ value.Null → payload v ≡ (kinds.Plain plain.Null, [])
payload-Null v e = by_layer v _ (ap out-Value e ∙ outs-Null)

pub payload-Regex : (v : Value) (pattern : Name) (options : Name) → v ≡ value.Regex pattern options → payload v ≡ (kinds.Plain plain.Regex, regex pattern options)
payload-Regex v pattern options e = by_layer v _ (ap out-Value e ∙ outs-Regex pattern options)

pub payload-DbPointer : (v : Value) (space : List ℕ) (id : Oid) → v ≡ value.DbPointer space id → payload v ≡ (kinds.Plain plain.DbPointer, string space ++ id.0)
payload-DbPointer v space id e = by_layer v _ (ap out-Value e ∙ outs-DbPointer space id)

pub payload-Code : (v : Value) (text : List ℕ) → v ≡ value.Code text → payload v ≡ (kinds.Plain plain.Code, string text)
payload-Code v text e = by_layer v _ (ap out-Value e ∙ outs-Code text)

pub payload-Symbol : (v : Value) (text : List ℕ) → v ≡ value.Symbol text → payload v ≡ (kinds.Plain plain.Symbol, string text)
payload-Symbol v text e = by_layer v _ (ap out-Value e ∙ outs-Symbol text)

pub payload-Scope : (v : Value) (code : List ℕ) (d : Document) → v ≡ value.Scope code d → payload v ≡ (kinds.Scope, scope (string code) (spelled d))
payload-Scope v code d e = by_layer v _ (ap out-Value e ∙ outs-Scope code d) ∙ ap (λ (bytes : List ℕ). (kinds.Scope, scope (string code) bytes)) (spelled_is_fold d)

pub payload-Int32 : (v : Value) (n : ℤ) → v ≡ value.Int32 n → payload v ≡ (kinds.Plain plain.Int32, number32 (cast_unsigned w32 n))
payload-Int32 v n e = by_layer v _ (ap out-Value e ∙ outs-Int32 n)

pub payload-Stamp : (v : Value) (n : ℕ) → v ≡ value.Stamp n → payload v ≡ (kinds.Plain plain.Stamp, little_bytes 8 n)
payload-Stamp v n e = by_layer v _ (ap out-Value e ∙ outs-Stamp n)

pub payload-Int64 : (v : Value) (n : ℤ) → v ≡ value.Int64 n → payload v ≡ (kinds.Plain plain.Int64, int64 n)
payload-Int64 v n e = by_layer v _ (ap out-Value e ∙ outs-Int64 n)

pub payload-Decimal : (v : Value) (raw : List ℕ) → v ≡ value.Decimal raw → payload v ≡ (kinds.Plain plain.Decimal, raw)
payload-Decimal v raw e = by_layer v _ (ap out-Value e ∙ outs-Decimal raw)

pub payload-Max : (v : Value) → v ≡ value.Max → payload v ≡ (kinds.Plain plain.Max, [])
payload-Max v e = by_layer v _ (ap out-Value e ∙ outs-Max)

pub payload-Min : (v : Value) → v ≡ value.Min → payload v ≡ (kinds.Plain plain.Min, [])
payload-Min v e = by_layer v _ (ap out-Value e ∙ outs-Min)

pub ruleset payloads = (payload-Double, payload-Str, payload-Doc, payload-Array, payload-Binary, payload-Undefined, payload-Oid, payload-Bool, payload-Date, payload-Null, payload-Regex, payload-DbPointer, payload-Code, payload-Symbol, payload-Scope, payload-Int32, payload-Stamp, payload-Int64, payload-Decimal, payload-Max, payload-Min)
