-- What has a spelling has the canonical one, where that is not too long.
use Rattle.std.proofs.Common.{◌≡◌, ℕ, zero, suc, ◌^◌, ◌<◌, ◌≤◌, max, List, [], ◌∷◌, ◌++◌, length, get_or, map, decimal, All, refl, sym, ap, subst, ◌∙◌, arith}
use Rattle.std.specs.List.{AllByRecursion}
use Rattle.std.specs.Int.{w32, w64}
use Rattle.std.proofs.Math.Facts.{sfits_to_z, Fits-of_lt}
use Rattle.std.proofs.lemmas.List.{length-append}
use Rattle.std.proofs.lemmas.List.Elements.{recursion_from_All}
use Rattle.byteorder.specs.Endian.{little_number}
use Rattle.byteorder.specs.Numbers.{little_from-lt}
use Rattle.bson_doc.specs.Documents.{depth_inside, depth_of, greatest, value_step, document_step}
use Rattle.bson_doc.specs.declared.name.Name.{Name}
use Rattle.bson_doc.specs.declared.value.Document.{Document}
use Rattle.bson_doc.specs.declared.value.Value.{Value, Value-F, map-Value, out-Value, roll-Value, roll-out-Value, fold_out-Value}
use Rattle.bson_doc.specs.declared.value.Value.TheVariants as value
use Rattle.bson_doc.specs.declared.value.Value.TheVariants.{rolls-Double, rolls-Str, rolls-Doc, rolls-Array, rolls-Binary, rolls-Undefined, rolls-Oid, rolls-Bool, rolls-Date, rolls-Null, rolls-Regex, rolls-DbPointer, rolls-Code, rolls-Symbol, rolls-Scope, rolls-Int32, rolls-Stamp, rolls-Int64, rolls-Decimal, rolls-Max, rolls-Min}
use Rattle.bson_doc.specs.declared.value.Value.TheOpen as layer
use Rattle.bson_doc.specs.declared.kind.Kind.{Kind}
use Rattle.bson_doc.specs.wire.Kinds.{byte_of}
use Rattle.bson_doc.specs.wire.Spelling.{IsString, IsRegex, IsDbPointer, IsArray, IsScope, IsPayload, AreElements, SpellsWithin, Spells, values}
use Rattle.bson_doc.specs.wire.Spelled.{string, scope, element, numbered, payload, spelled_elements, spelled, spelled_items}
use Rattle.bson_wire.specs.Written.{PayloadSpells, ElementSpells}
use Rattle.bson_wire.proofs.Payloads.{payload-Str, payload-Doc, payload-Array, payload-Binary, payload-DbPointer, payload-Code, payload-Symbol, payload-Scope}
use Rattle.bson_wire.proofs.PlainWritten.{double_spells, str_spells, code_spells, symbol_spells, binary_spells, undefined_spells, oid_spells, bool_spells, date_spells, null_spells, regex_spells, pointer_spells, int32_spells, stamp_spells, int64_spells, decimal_spells, max_spells, min_spells}
use Rattle.bson_wire.proofs.Written.{doc_spells, array_spells, scope_spells, depth_of-elements, depth_inside-Doc, depth_inside-Array, depth_inside-Scope, length-document, length-scope, outermost_spells}

abbrev Element : Type 0
Element = Name × Value

-- ---- bytes

abbrev AreBytes : List ℕ → Type 0
AreBytes bytes = AllByRecursion (λ b. b < 256) bytes

split_bytes : (a b : List ℕ) → AreBytes (a ++ b) → AreBytes a × AreBytes b
split_bytes [] b h = (tt, h)
split_bytes (x ∷ a) b h = let parts = split_bytes a b h.1 in ((h.0, parts.0), parts.1)

byte_at : (bytes : List ℕ) → AreBytes bytes → (k : ℕ) → get_or bytes k 0 < 256
byte_at [] h k = omega arith
byte_at (b ∷ bs) h zero = h.0
byte_at (b ∷ bs) h (suc k) = byte_at bs h.1 k

-- ---- sizes: a payload is no longer than what it lies in

abbrev FitsValue : Value → Type 0
FitsValue v = length (payload v).1 ≤ 48000000

elements_fit : (es : List Element) → length (spelled_elements es) ≤ 48000000 → AllByRecursion (λ e. FitsValue e.1) es
elements_fit [] small = tt
elements_fit (e ∷ es) small =
    let all = length-append (element e.0 (payload e.1)) (spelled_elements es) in
    (omega (arith, all, length-append e.0 (0 ∷ (payload e.1).1)), elements_fit es (omega (arith, all)))

items_fit : (i : ℕ) (vs : List Value) → length (numbered i (map payload vs)) ≤ 48000000 → AllByRecursion FitsValue vs
items_fit i [] small = tt
items_fit i (v ∷ vs) small =
    let all = length-append (element (decimal i) (payload v)) (numbered (suc i) (map payload vs)) in
    (omega (arith, all, length-append (decimal i) (0 ∷ (payload v).1)), items_fit (suc i) vs (omega (arith, all)))

named_fit : (es : List Element) → AllByRecursion FitsValue (values es) → AllByRecursion (λ e. FitsValue e.1) es
named_fit [] fit = tt
named_fit (e ∷ es) fit = (fit.0, named_fit es fit.1)

values_fit : (es : List Element) (vs : List Value) → values es ≡ vs → AllByRecursion FitsValue vs → AllByRecursion (λ e. FitsValue e.1) es
values_fit es vs same fit = named_fit es (subst (AllByRecursion FitsValue) (sym same) fit)

values_spell : (es : List Element) → AllByRecursion ElementSpells es → AllByRecursion PayloadSpells (values es)
values_spell [] known = tt
values_spell (e ∷ es) known = (known.0.1, values_spell es known.1)

greatest-values : (es : List Element) → greatest depth_inside (values es) ≡ greatest (λ e. depth_inside e.1) es
greatest-values [] = refl
greatest-values (e ∷ es) = ap (λ (n : ℕ). max (depth_inside e.1) n) (greatest-values es)

-- ---- what is known of what has a spelling

abbrev DocumentKnown : ℕ → Type 0
DocumentKnown levels = (text : List ℕ) (d : Document) → AreBytes text → SpellsWithin levels text d → AllByRecursion (λ e. FitsValue e.1) d.elements → AllByRecursion ElementSpells d.elements × (depth_of d ≤ levels)

depth_by_layer : (v : Value) (w : Value-F Value Document) → out-Value v ≡ w → depth_inside v ≡ value_step (map-Value Value Document ℕ ℕ depth_inside depth_of w)
depth_by_layer v w e = fold_out-Value ℕ ℕ value_step document_step v ∙ ap (λ u. value_step (map-Value Value Document ℕ ℕ depth_inside depth_of u)) e

value_known : (levels : ℕ) → DocumentKnown levels → (kind : Kind) (bytes : List ℕ) (v : Value) (w : Value-F Value Document) → out-Value v ≡ w → IsPayload (SpellsWithin levels) kind bytes w → AreBytes bytes → FitsValue v → PayloadSpells v × (depth_inside v ≤ levels)
value_known levels inner kind bytes v (layer.Double raw) e h are small =
    let made : v ≡ value.Double raw = sym (roll-out-Value v) ∙ ap roll-Value e ∙ rolls-Double raw in
    (double_spells v raw made (omega (arith, h.1, ap length h.2)), omega (arith, depth_by_layer v (layer.Double raw) e))
value_known levels inner kind bytes v (layer.Str text) e h are small =
    let made : v ≡ value.Str text = sym (roll-out-Value v) ∙ ap roll-Value e ∙ rolls-Str text in
    let is : IsString bytes text = h.1 in
    (str_spells v text made is.utf8 (rw (payload-Str v text made) at small), omega (arith, depth_by_layer v (layer.Str text) e))
value_known levels inner kind bytes v (layer.Doc d) e h are small =
    let made : v ≡ value.Doc d = sym (roll-out-Value v) ∙ ap roll-Value e ∙ rolls-Doc d in
    let size : length (spelled d) ≤ 48000000 = rw (payload-Doc v d made) at small in
    let known = inner bytes d are h.1 (elements_fit d.elements (omega (arith, length-document (spelled_elements d.elements)))) in
    (doc_spells v d made known.0 size, omega (arith, depth_inside-Doc v d made, known.1))
value_known levels inner kind bytes v (layer.Array items) e h are small =
    let made : v ≡ value.Array items = sym (roll-out-Value v) ∙ ap roll-Value e ∙ rolls-Array items in
    let is : IsArray (SpellsWithin levels) bytes items = h.1 in
    let size : length (spelled_items items) ≤ 48000000 = rw (payload-Array v items made) at small in
    let fit = values_fit is.document.elements items is.same (items_fit 0 items (omega (arith, length-document (numbered 0 (map payload items))))) in
    let known = inner bytes is.document are is.inner fit in
    let spell : AllByRecursion PayloadSpells items = subst (AllByRecursion PayloadSpells) is.same (values_spell is.document.elements known.0) in
    let deep : greatest depth_inside items ≡ greatest (λ f. depth_inside f.1) is.document.elements = ap (greatest depth_inside) (sym is.same) ∙ greatest-values is.document.elements in
    (array_spells v items made spell size, omega (arith, depth_inside-Array v items made, known.1, depth_of-elements is.document, deep))
value_known levels inner kind bytes v (layer.Binary subtype held) e h are small =
    let made : v ≡ value.Binary subtype held = sym (roll-out-Value v) ∙ ap roll-Value e ∙ rolls-Binary subtype held in
    (binary_spells v subtype held made (rw (payload-Binary v subtype held made) at small), omega (arith, depth_by_layer v (layer.Binary subtype held) e))
value_known levels inner kind bytes v layer.Undefined e h are small =
    let made : v ≡ value.Undefined = sym (roll-out-Value v) ∙ ap roll-Value e ∙ rolls-Undefined in
    (undefined_spells v made, omega (arith, depth_by_layer v layer.Undefined e))
value_known levels inner kind bytes v (layer.Oid id) e h are small =
    let made : v ≡ value.Oid id = sym (roll-out-Value v) ∙ ap roll-Value e ∙ rolls-Oid id in
    (oid_spells v id made (omega (arith, h.1, ap length h.2)), omega (arith, depth_by_layer v (layer.Oid id) e))
value_known levels inner kind bytes v (layer.Bool b) e h are small =
    let made : v ≡ value.Bool b = sym (roll-out-Value v) ∙ ap roll-Value e ∙ rolls-Bool b in
    (bool_spells v b made, omega (arith, depth_by_layer v (layer.Bool b) e))
value_known levels inner kind bytes v (layer.Date n) e h are small =
    let made : v ≡ value.Date n = sym (roll-out-Value v) ∙ ap roll-Value e ∙ rolls-Date n in
    let low : little_number 8 bytes < 2 ^ 64 = omega (arith, little_from-lt 0 8 bytes (byte_at bytes are)) in
    (date_spells v n made (rw (← h.2) (sfits_to_z {w = w64} (Fits-of_lt {w = w64} low))), omega (arith, depth_by_layer v (layer.Date n) e))
value_known levels inner kind bytes v layer.Null e h are small =
    let made : v ≡ value.Null = sym (roll-out-Value v) ∙ ap roll-Value e ∙ rolls-Null in
    (null_spells v made, omega (arith, depth_by_layer v layer.Null e))
value_known levels inner kind bytes v (layer.Regex pattern options) e h are small =
    let made : v ≡ value.Regex pattern options = sym (roll-out-Value v) ∙ ap roll-Value e ∙ rolls-Regex pattern options in
    let is : IsRegex bytes pattern options = h.1 in
    (regex_spells v pattern options made is.first is.second, omega (arith, depth_by_layer v (layer.Regex pattern options) e))
value_known levels inner kind bytes v (layer.DbPointer space id) e h are small =
    let made : v ≡ value.DbPointer space id = sym (roll-out-Value v) ∙ ap roll-Value e ∙ rolls-DbPointer space id in
    let is : IsDbPointer bytes space id.0 = h.1 in
    let size : length (string space ++ id.0) ≤ 48000000 = rw (payload-DbPointer v space id made) at small in
    (pointer_spells v space id made is.text.utf8 (omega (arith, size, length-append (string space) id.0)) is.size, omega (arith, depth_by_layer v (layer.DbPointer space id) e))
value_known levels inner kind bytes v (layer.Code text) e h are small =
    let made : v ≡ value.Code text = sym (roll-out-Value v) ∙ ap roll-Value e ∙ rolls-Code text in
    let is : IsString bytes text = h.1 in
    (code_spells v text made is.utf8 (rw (payload-Code v text made) at small), omega (arith, depth_by_layer v (layer.Code text) e))
value_known levels inner kind bytes v (layer.Symbol text) e h are small =
    let made : v ≡ value.Symbol text = sym (roll-out-Value v) ∙ ap roll-Value e ∙ rolls-Symbol text in
    let is : IsString bytes text = h.1 in
    (symbol_spells v text made is.utf8 (rw (payload-Symbol v text made) at small), omega (arith, depth_by_layer v (layer.Symbol text) e))
value_known levels inner kind bytes v (layer.Scope code d) e h are small =
    let made : v ≡ value.Scope code d = sym (roll-out-Value v) ∙ ap roll-Value e ∙ rolls-Scope code d in
    let is : IsScope (SpellsWithin levels) bytes code d = h.1 in
    let size : length (scope (string code) (spelled d)) ≤ 48000000 = rw (payload-Scope v code d made) at small in
    let inside = (split_bytes is.number (is.string ++ is.document) (subst AreBytes is.parts are)).1 in
    let own = (split_bytes is.string is.document inside).1 in
    let known = inner is.document d own is.inner (elements_fit d.elements (omega (arith, length-scope code d, length-document (spelled_elements d.elements)))) in
    (scope_spells v code d made is.text.utf8 known.0 size, omega (arith, depth_inside-Scope v code d made, known.1))
value_known levels inner kind bytes v (layer.Int32 n) e h are small =
    let made : v ≡ value.Int32 n = sym (roll-out-Value v) ∙ ap roll-Value e ∙ rolls-Int32 n in
    let low : little_number 4 bytes < 2 ^ 32 = omega (arith, little_from-lt 0 4 bytes (byte_at bytes are)) in
    (int32_spells v n made (rw (← h.2) (sfits_to_z {w = w32} (Fits-of_lt {w = w32} low))), omega (arith, depth_by_layer v (layer.Int32 n) e))
value_known levels inner kind bytes v (layer.Stamp n) e h are small =
    let made : v ≡ value.Stamp n = sym (roll-out-Value v) ∙ ap roll-Value e ∙ rolls-Stamp n in
    let low : little_number 8 bytes < 2 ^ 64 = omega (arith, little_from-lt 0 8 bytes (byte_at bytes are)) in
    (stamp_spells v n made (omega (arith, low, h.2)), omega (arith, depth_by_layer v (layer.Stamp n) e))
value_known levels inner kind bytes v (layer.Int64 n) e h are small =
    let made : v ≡ value.Int64 n = sym (roll-out-Value v) ∙ ap roll-Value e ∙ rolls-Int64 n in
    let low : little_number 8 bytes < 2 ^ 64 = omega (arith, little_from-lt 0 8 bytes (byte_at bytes are)) in
    (int64_spells v n made (rw (← h.2) (sfits_to_z {w = w64} (Fits-of_lt {w = w64} low))), omega (arith, depth_by_layer v (layer.Int64 n) e))
value_known levels inner kind bytes v (layer.Decimal raw) e h are small =
    let made : v ≡ value.Decimal raw = sym (roll-out-Value v) ∙ ap roll-Value e ∙ rolls-Decimal raw in
    (decimal_spells v raw made (omega (arith, h.1, ap length h.2)), omega (arith, depth_by_layer v (layer.Decimal raw) e))
value_known levels inner kind bytes v layer.Max e h are small =
    let made : v ≡ value.Max = sym (roll-out-Value v) ∙ ap roll-Value e ∙ rolls-Max in
    (max_spells v made, omega (arith, depth_by_layer v layer.Max e))
value_known levels inner kind bytes v layer.Min e h are small =
    let made : v ≡ value.Min = sym (roll-out-Value v) ∙ ap roll-Value e ∙ rolls-Min in
    (min_spells v made, omega (arith, depth_by_layer v layer.Min e))

elements_known : (levels : ℕ) → DocumentKnown levels → (bytes : List ℕ) (es : List Element) → AreBytes bytes → AreElements (SpellsWithin levels) bytes es → AllByRecursion (λ e. FitsValue e.1) es → AllByRecursion ElementSpells es × (greatest (λ e. depth_inside e.1) es ≤ levels)
elements_known levels inner bytes [] are h fit = (tt, omega arith)
elements_known levels inner bytes (e ∷ es) are (first, others, parts, is, more) fit =
    let halves = split_bytes first others (subst AreBytes parts are) in
    let cut : AreBytes (byte_of is.kind ∷ (e.0 ++ 0 ∷ is.payload)) = subst AreBytes is.parts halves.0 in
    let inside = split_bytes e.0 (0 ∷ is.payload) cut.1 in
    let one = value_known levels inner is.kind is.payload e.1 (out-Value e.1) refl is.value inside.1.1 fit.0 in
    let rest = elements_known levels inner others es halves.1 more fit.1 in
    (((is.name, one.0), rest.0), omega (arith, one.1, rest.1))

document_known : (levels : ℕ) → DocumentKnown levels
unfolding SpellsWithin
document_known zero text d are h fit = absurd h
document_known (suc levels) text d are h fit =
    let body = split_bytes h.body (0 ∷ []) (split_bytes h.number (h.body ++ 0 ∷ []) (subst AreBytes h.parts are)).1 in
    let known = elements_known levels (document_known levels) h.body d.elements body.0 h.elements fit in
    (known.0, omega (arith, known.1, depth_of-elements d))

pub spelled_spells : (bytes : List ℕ) (d : Document) → All (λ b. b < 256) bytes → Spells bytes d → length (spelled d) ≤ 48000000 → Spells (spelled d) d
spelled_spells bytes d are spells small =
    let fit = elements_fit d.elements (omega (arith, length-document (spelled_elements d.elements))) in
    let known = document_known 100 bytes d (recursion_from_All (λ b. b < 256) bytes are) spells.within fit in
    outermost_spells (spelled d) d refl known.0 small known.1
