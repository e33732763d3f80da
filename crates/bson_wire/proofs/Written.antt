-- What is written of a value spells it, and how much it is.
use Rattle.std.proofs.Common.{◌≡◌, ℕ, zero, suc, ◌+◌, ◌^◌, ◌%◌, ◌<◌, ◌≤◌, max, List, [], ◌∷◌, ◌++◌, length, drop, get_or, map, decimal, Result, Ok, Err, refl, sym, ap, subst, ◌∙◌, append_assoc, add-one, arith, inl, inr}
use Rattle.std.specs.Prelude.{IsUtf8, OnOk}
use Rattle.std.specs.List.{AllByRecursion}
use Rattle.std.proofs.lemmas.List.{length-append, drop_more, get_or_append_left, get_or_push, length_push}
use Rattle.std.proofs.lemmas.Bool.{ne_eqb, cases_lt}
use Rattle.std.proofs.lemmas.Str.{IsUtf8-from_ascii}
use Rattle.std.proofs.lemmas.Fmt.{IsAscii-decimal, decimal_by_steps}
use Rattle.bson_doc.specs.Documents.{depth_inside, depth_of, greatest, value_step, document_step}
use Rattle.bson_doc.specs.declared.name.Name.{Name}
use Rattle.bson_doc.specs.declared.value.Document.{Document, fold_out-Document}
use Rattle.bson_doc.specs.declared.value.Value.{Value, map-Value, out-Value, fold_out-Value}
use Rattle.bson_doc.specs.declared.value.Value.TheVariants as value
use Rattle.bson_doc.specs.declared.value.Value.TheVariants.{outs-Doc, outs-Array, outs-Scope}
use Rattle.bson_wire.specs.declared.fault.EncodeFault.{EncodeFault}
use Rattle.bson_wire.specs.declared.fault.EncodeFault.TheVariants as fault
use Rattle.bson_doc.specs.wire.Spelling.{IsNumber32, IsName, IsArray, IsElement, AreElements, SpellsWithin, Spells, values}
use Rattle.bson_doc.specs.wire.Spelled.{number32, string, scope, document, element, numbered, payload, spelled_elements, spelled, spelled_items}
use Rattle.bson_wire.specs.Written.{PayloadSpells, ElementSpells, Stops}
use Rattle.bson_doc.proofs.wire.Texts.{HasNoZero-from}
use Rattle.bson_wire.proofs.Payloads.{payload-Doc, payload-Array, payload-Scope}
use Rattle.bson_wire.proofs.PlainWritten.{spells_by, number32_is, is_string}

abbrev Element : Type 0
Element = Name × Value

-- what stops a writer stops one of more bytes
pub stops_more : (m n : ℕ) (e : EncodeFault) → m ≤ n → Stops m e → Stops n e
stops_more m n fault.Deep le h = h
stops_more m n fault.Long le h = omega arith
stops_more m n fault.Memory le h = tt

-- ---- documents and arrays

greatest-map : {X Y : Type 0} (f : Y → ℕ) (g : X → Y) (xs : List X) → greatest f (map g xs) ≡ greatest (λ x. f (g x)) xs
greatest-map f g [] = refl
greatest-map f g (x ∷ xs) = ap (λ (n : ℕ). max (f (g x)) n) (greatest-map f g xs)

pub depth_of-elements : (d : Document) → depth_of d ≡ 1 + greatest (λ e. depth_inside e.1) d.elements
depth_of-elements d = fold_out-Document ℕ ℕ value_step document_step d ∙ ap (λ (n : ℕ). 1 + n) (greatest-map (λ e. e.1) _ d.elements)

pub depth_inside-Doc : (v : Value) (d : Document) → v ≡ value.Doc d → depth_inside v ≡ depth_of d
depth_inside-Doc v d e =
    ap depth_inside e ∙ fold_out-Value ℕ ℕ value_step document_step (value.Doc d) ∙ ap (λ w. value_step (map-Value Value Document ℕ ℕ depth_inside depth_of w)) (outs-Doc d)

pub depth_inside-Array : (v : Value) (items : List Value) → v ≡ value.Array items → depth_inside v ≡ 1 + greatest depth_inside items
depth_inside-Array v items e =
    ap depth_inside e ∙ fold_out-Value ℕ ℕ value_step document_step (value.Array items) ∙ ap (λ w. value_step (map-Value Value Document ℕ ℕ depth_inside depth_of w)) (outs-Array items)
    ∙ ap (λ (n : ℕ). 1 + n) (greatest-map (λ d. d) depth_inside items)

pub depth_inside-Scope : (v : Value) (code : List ℕ) (d : Document) → v ≡ value.Scope code d → depth_inside v ≡ depth_of d
depth_inside-Scope v code d e =
    ap depth_inside e ∙ fold_out-Value ℕ ℕ value_step document_step (value.Scope code d) ∙ ap (λ w. value_step (map-Value Value Document ℕ ℕ depth_inside depth_of w)) (outs-Scope code d)

pub length-document : (body : List ℕ) → length (document body) ≡ length body + 5
length-document body = omega (arith, length-append body (0 ∷ []))

elements_spell : (levels : ℕ) (es : List Element) → AllByRecursion ElementSpells es → greatest (λ e. depth_inside e.1) es ≤ levels → AreElements (SpellsWithin levels) (spelled_elements es) es
elements_spell levels [] known deep = refl
elements_spell levels (e ∷ es) known deep =
    let one : IsElement (SpellsWithin levels) (element e.0 (payload e.1)) e = record {
      kind = (payload e.1).0;
      payload = (payload e.1).1;
      parts = refl;
      name = known.0.0;
      value = known.0.1 levels (omega arith);
    } in
    (element e.0 (payload e.1), spelled_elements es, refl, one, elements_spell levels es known.1 (omega arith))

is_document : (levels : ℕ) (es : List Element) (d : Document) → d.elements ≡ es → AllByRecursion ElementSpells es → greatest (λ e. depth_inside e.1) es ≤ levels → length (document (spelled_elements es)) ≤ 48000000 → SpellsWithin (suc levels) (document (spelled_elements es)) d
unfolding SpellsWithin
is_document levels es d same known deep small = record {
  number = number32 (length (spelled_elements es) + 5);
  body = spelled_elements es;
  counts = number32_is (length (spelled_elements es) + 5) (omega (arith, length-document (spelled_elements es)));
  parts = refl;
  elements = rw same (elements_spell levels es known deep);
}

pub document_spells : (levels : ℕ) (d : Document) → AllByRecursion ElementSpells d.elements → length (spelled d) ≤ 48000000 → depth_of d ≤ levels → SpellsWithin levels (spelled d) d
document_spells zero d known small deep = absurd (omega (arith, depth_of-elements d))
document_spells (suc levels) d known small deep = is_document levels d.elements d refl known (omega (arith, depth_of-elements d)) small

pub doc_spells : (v : Value) (d : Document) → v ≡ value.Doc d → AllByRecursion ElementSpells d.elements → length (spelled d) ≤ 48000000 → PayloadSpells v
doc_spells v d e known small =
    spells_by v _ _ (payload-Doc v d e) (ap out-Value e ∙ outs-Doc d) (λ levels deep. (refl, document_spells levels d known small (omega (arith, depth_inside-Doc v d e))))

pub length-scope : (code : List ℕ) (d : Document) → length (scope (string code) (spelled d)) ≡ length (string code) + length (spelled d) + 4
length-scope code d = omega (arith, length-append (string code) (spelled d))

pub scope_spells : (v : Value) (code : List ℕ) (d : Document) → v ≡ value.Scope code d → IsUtf8 code → AllByRecursion ElementSpells d.elements → length (scope (string code) (spelled d)) ≤ 48000000 → PayloadSpells v
scope_spells v code d e utf8 known small =
    let total : length (string code ++ spelled d) ≡ length (string code) + length (spelled d) = length-append (string code) (spelled d) in
    spells_by v _ _ (payload-Scope v code d e) (ap out-Value e ∙ outs-Scope code d) (λ levels deep. (
      refl,
      record {
        number = number32 (length (string code ++ spelled d) + 4);
        string = string code;
        document = spelled d;
        counts = subst (IsNumber32 (number32 (length (string code ++ spelled d) + 4))) (ap (λ (n : ℕ). n + 4) total) (number32_is (length (string code ++ spelled d) + 4) (omega (arith, length-scope code d, total)));
        parts = refl;
        text = is_string code utf8 (omega (arith, length-scope code d));
        inner = document_spells levels d known (omega (arith, length-scope code d)) (omega (arith, depth_inside-Scope v code d e));
      },
    ))

-- an array as the document that spells it
abbrev numbered_elements : ℕ → List Value → List Element
numbered_elements i [] = []
numbered_elements i (v ∷ vs) = (decimal i, v) ∷ numbered_elements (suc i) vs

values-numbered : (i : ℕ) (vs : List Value) → values (numbered_elements i vs) ≡ vs
values-numbered i [] = refl
values-numbered i (v ∷ vs) = ap (λ (ws : List Value). v ∷ ws) (values-numbered (suc i) vs)

spelled_elements-numbered : (i : ℕ) (vs : List Value) → spelled_elements (numbered_elements i vs) ≡ numbered i (map payload vs)
spelled_elements-numbered i [] = refl
spelled_elements-numbered i (v ∷ vs) = ap (λ (xs : List ℕ). element (decimal i) (payload v) ++ xs) (spelled_elements-numbered (suc i) vs)

greatest-numbered : (i : ℕ) (vs : List Value) → greatest (λ e. depth_inside e.1) (numbered_elements i vs) ≡ greatest depth_inside vs
greatest-numbered i [] = refl
greatest-numbered i (v ∷ vs) = ap (λ (n : ℕ). max (depth_inside v) n) (greatest-numbered (suc i) vs)

length-numbered : (i : ℕ) (vs : List Value) → length vs ≤ length (numbered i (map payload vs))
length-numbered i [] = omega arith
length-numbered i (v ∷ vs) = omega (arith, length-append (element (decimal i) (payload v)) (numbered (suc i) (map payload vs)), length-numbered (suc i) vs)

abbrev AreDigits : List ℕ → Type 0
AreDigits ds = (k : ℕ) → k < length ds → 48 ≤ get_or ds k 0

one_digit : (b : ℕ) → 48 ≤ b → AreDigits (b ∷ [])
one_digit b le zero lt = le
one_digit b le (suc k) lt = absurd (omega arith)

more_digits : (ds : List ℕ) (b : ℕ) → AreDigits ds → 48 ≤ b → AreDigits (ds ++ b ∷ [])
more_digits ds b are le k lt =
    elim (cases_lt k (length ds)) [
      | inl less ↦ rw (get_or_append_left ds (b ∷ []) 0 k less) (are k less)
      | inr past ↦
          let last : length ds ≡ k = omega (arith, length_push ds b) in
          rw (get_or_push ds b 0 k last) le
    ]

decimal_digits : (i : ℕ) → i < 2 ^ 64 → AreDigits (decimal i)
decimal_digits = decimal_by_steps (λ n ds. AreDigits ds) (λ n lt. one_digit (48 + n) (omega arith)) (λ n ds ge are. more_digits ds (48 + n % 10) are (omega arith))

decimal_is_name : (i : ℕ) → i < 2 ^ 64 → IsName (decimal i)
decimal_is_name i lt = record {
  no_zero = HasNoZero-from (decimal i) (λ k le. ne_eqb (get_or (decimal i) k 0) 0 (λ e. absurd (omega (arith, decimal_digits i lt k le))));
  utf8 = IsUtf8-from_ascii (decimal i) (IsAscii-decimal i lt);
}

numbered_spell : (i : ℕ) (vs : List Value) → i + length vs < 2 ^ 64 → AllByRecursion PayloadSpells vs → AllByRecursion ElementSpells (numbered_elements i vs)
numbered_spell i [] lt known = tt
numbered_spell i (v ∷ vs) lt known = ((decimal_is_name i (omega arith), known.0), numbered_spell (suc i) vs (omega arith) known.1)

array_is : (levels : ℕ) (items : List Value) → AllByRecursion PayloadSpells items → length (spelled_items items) ≤ 48000000 → 1 + greatest depth_inside items ≤ levels → IsArray (SpellsWithin levels) (spelled_items items) items
array_is zero items known small deep = absurd (omega arith)
array_is (suc levels) items known small deep =
    let es : List Element = numbered_elements 0 items in
    let same : spelled_elements es ≡ numbered 0 (map payload items) = spelled_elements-numbered 0 items in
    let few : length items < 2 ^ 64 = omega (arith, length-numbered 0 items, length-document (numbered 0 (map payload items))) in
    let inner : SpellsWithin (suc levels) (document (spelled_elements es)) (record { elements = es }) =
    is_document levels es (record { elements = es }) refl (numbered_spell 0 items (omega arith) known) (omega (arith, greatest-numbered 0 items)) (rw same small) in
    record {
      document = record { elements = es };
      inner = subst (λ (body : List ℕ). SpellsWithin (suc levels) (document body) (record { elements = es })) same inner;
      same = values-numbered 0 items;
    }

pub array_spells : (v : Value) (items : List Value) → v ≡ value.Array items → AllByRecursion PayloadSpells items → length (spelled_items items) ≤ 48000000 → PayloadSpells v
array_spells v items e known small =
    spells_by v _ _ (payload-Array v items e) (ap out-Value e ∙ outs-Array items) (λ levels deep. (refl, array_is levels items known small (omega (arith, depth_inside-Array v items e))))

-- ---- the loops that write

pub OnOk-both : {T E P Q S : Type 0} (r : Result T E) → (P → Q → S) → OnOk r P → OnOk r Q → OnOk r S
OnOk-both (Ok x) f p q = f p q
OnOk-both (Err e) f p q = tt

next_item : {X : Type 0} (xs : List X) (i : ℕ) (x : X) → i < length xs → x ≡ get_or xs i x → drop i xs ≡ x ∷ drop (i + 1) xs
next_item xs i x lt is = drop_more xs i x lt ∙ ap (λ y. y ∷ drop (i + 1) xs) (sym is)

-- what is left of a document's elements, and of an array's items, one on
pub elements_left : (es : List Element) (i : ℕ) (e : Element) → i < length es → e ≡ get_or es i e → spelled_elements (drop i es) ≡ element e.0 (payload e.1) ++ spelled_elements (drop (i + 1) es)
elements_left es i e lt is = ap spelled_elements (next_item es i e lt is)

pub items_left : (vs : List Value) (i : ℕ) (v : Value) → i < length vs → v ≡ get_or vs i v → numbered i (map payload (drop i vs)) ≡ element (decimal i) (payload v) ++ numbered (i + 1) (map payload (drop (i + 1) vs))
items_left vs i v lt is = ap (λ (ws : List Value). numbered i (map payload ws)) (next_item vs i v lt is) ∙ rw add-one refl

-- what is written and what is left make the whole, one on
pub writes_more : (out new text left after total : List ℕ) → new ≡ out ++ text → left ≡ text ++ after → out ++ left ≡ total → new ++ after ≡ total
writes_more out new text left after total e k h = ap (λ (xs : List ℕ). xs ++ after) e ∙ append_assoc out text after ∙ ap (λ (xs : List ℕ). out ++ xs) (sym k) ∙ h

pub known_more : {X : Type 0} (P : X → Type 0) (xs : List X) (i : ℕ) (x : X) → i < length xs → x ≡ get_or xs i x → P x → AllByRecursion P (drop (i + 1) xs) → AllByRecursion P (drop i xs)
known_more P xs i x lt is p others = rw (next_item xs i x lt is) (p, others)

-- a part is no longer than the whole
pub part-le : (old out text left after body : List ℕ) → length old + 4 ≤ length out → left ≡ text ++ after → out ++ left ≡ (old ++ 0 ∷ 0 ∷ 0 ∷ 0 ∷ []) ++ body → length text ≤ length (document body)
part-le old out text left after body le k h =
    omega (arith, ap length h, ap length k, length-append text after, length-append out left, length-append old (0 ∷ 0 ∷ 0 ∷ 0 ∷ []), length-append (old ++ 0 ∷ 0 ∷ 0 ∷ 0 ∷ []) body, length-document body)

-- ---- the outermost document

pub outermost_spells : (bytes : List ℕ) (d : Document) → bytes ≡ spelled d → AllByRecursion ElementSpells d.elements → length (spelled d) ≤ 48000000 → depth_of d ≤ 100 → Spells bytes d
outermost_spells bytes d e known small deep = rw e (record { within = document_spells 100 d known small deep; size = small })
