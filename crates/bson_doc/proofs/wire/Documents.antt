-- The two laws of a reader of documents, for the values, elements and bodies that lie inside: what is read is spelled by
-- what was taken, and what is spelled so is read, whatever follows. `R` reads an inner document, `Inner` spells it.
use Rattle.std.proofs.Common.{◌≡◌, ℕ, zero, suc, ◌+◌, ◌-◌, ◌≤◌, cond, eqb, List, [], ◌∷◌, ◌++◌, length, take, drop, Option, Some, None, Ok, refl, sym, ap, subst, ◌∙◌, append_assoc, arith, inl, inr}
use Rattle.std.proofs.lemmas.Bool.{cases_Bool, cond-true, cond-false, eqb-true}
use Rattle.std.proofs.lemmas.List.{take_at, drop_at, take-append-drop, length-append, length-take-le, append-nil}
use Rattle.bson_doc.specs.declared.name.Name.{Name}
use Rattle.bson_doc.specs.declared.value.Document.{Document}
use Rattle.bson_doc.specs.declared.value.Value.{Value, Value-F, out-Value, roll-Value, roll-out-Value}
use Rattle.bson_doc.specs.declared.value.Value.TheVariants as value
use Rattle.bson_doc.specs.declared.value.Value.TheVariants.{rolls-Doc, rolls-Array, rolls-Scope, outs-Doc, outs-Array, outs-Scope}
use Rattle.bson_doc.specs.declared.value.Value.TheOpen as layer
use Rattle.bson_doc.specs.declared.kind.Kind.{Kind}
use Rattle.bson_doc.specs.declared.kind.Kind.TheVariants as kinds
use Rattle.bson_doc.specs.declared.kind.PlainKind.TheVariants as plain
use Rattle.bson_doc.specs.declared.bson_fault.BsonFault.{BsonFault}
use Rattle.bson_doc.specs.Steps.{◌>>=◌, or_fault}
use Rattle.bson_doc.specs.wire.Kinds.{byte_of, kind_of_byte}
use Rattle.bson_doc.specs.wire.Spelling.{IsNumber32, IsString, IsArray, IsScope, IsPayload, IsElement, AreElements, SpellsWithin, values}
use Rattle.bson_doc.specs.wire.Reading.{Read, no_kind, kind_at, behind_zero, name_at, string_at, no_more, inside_scope_at, scope_at, value_at, element_at, elements_at, body_at, length_at, document_at, unnamed_document}
use Rattle.bson_doc.proofs.Steps.{bind_ok, ok_is, mapped-Ok}
use Rattle.bson_doc.proofs.wire.Fields.{Took, name_takes, name_again, string_takes, string_again, zero_takes, length_takes, length_again}
use Rattle.bson_doc.proofs.wire.PlainValues.{plain_takes, plain_again}

abbrev pub Reader : Type 0
Reader = ℕ → List ℕ → Read Document

abbrev pub Element : Type 0
Element = Name × Value

-- the document of some elements
abbrev pub document_of : List (Name × Value) → Document
document_of es = record { elements = es }

-- what was taken for a document
pub record Takes (Inner : List ℕ → Document → Type 0) (bytes : List ℕ) (d : Document) (rest : List ℕ) : Type 0 where
  pub text : List ℕ
  pub parts : bytes ≡ text ++ rest
  pub inner : Inner text d

abbrev pub TakesAll : Reader → (List ℕ → Document → Type 0) → Type 0
TakesAll R Inner = (end : ℕ) (bytes : List ℕ) (x : Document × List ℕ) → R end bytes ≡ Ok x → Takes Inner bytes x.0 x.1

abbrev pub ReadsAll : Reader → (List ℕ → Document → Type 0) → Type 0
ReadsAll R Inner = (end : ℕ) (text rest : List ℕ) (d : Document) → Inner text d → (R end (text ++ rest) ≡ Ok (d, rest)) × (5 ≤ length text)

-- ---- code with a scope

no_more_takes : (at : ℕ) (bytes left : List ℕ) → no_more at bytes ≡ Ok left → bytes ≡ []
no_more_takes at [] left e = refl
no_more_takes at (b ∷ bs) left e = absurd cc

-- what was taken for the string and the document of a scope
record TakesInside (Inner : List ℕ → Document → Type 0) (bytes code : List ℕ) (scope : Document) : Type 0 where
  string : List ℕ
  document : List ℕ
  parts : bytes ≡ string ++ document
  text : IsString string code
  inner : Inner document scope

inside_takes : (R : Reader) (Inner : List ℕ → Document → Type 0) → TakesAll R Inner → (at end : ℕ) (bytes : List ℕ) (x : List ℕ × Document) → inside_scope_at R at end bytes ≡ Ok x → TakesInside Inner bytes x.0 x.1
unfolding inside_scope_at
inside_takes R Inner takes at end bytes x e =
    let a = bind_ok (string_at end bytes) (λ code. R end code.1 >>= (λ scope. no_more at scope.1 >>= (λ left. Ok (code.0, scope.0)))) x e in
    let b = bind_ok (R end a.0.1) (λ scope. no_more at scope.1 >>= (λ left. Ok (a.0.0, scope.0))) x a.2 in
    let c = mapped-Ok (λ left. (a.0.0, b.0.0)) (no_more at b.0.1) x b.2 in
    let s = string_takes end bytes a.0 a.1 in
    let t = takes end a.0.1 b.0 b.1 in
    let all : a.0.1 ≡ t.text = t.parts ∙ ap (λ (xs : List ℕ). t.text ++ xs) (no_more_takes at b.0.1 c.0 c.1) ∙ append-nil t.text in
    subst (λ (y : List ℕ × Document). TakesInside Inner bytes y.0 y.1) c.2 (record {
      string = s.spelling;
      document = t.text;
      parts = s.parts ∙ ap (λ (xs : List ℕ). s.spelling ++ xs) all;
      text = s.is;
      inner = t.inner;
    })

inside_again : (R : Reader) (Inner : List ℕ → Document → Type 0) → ReadsAll R Inner → (at end : ℕ) (string document code : List ℕ) (scope : Document) → IsString string code → Inner document scope → inside_scope_at R at end (string ++ document) ≡ Ok (code, scope)
unfolding inside_scope_at
inside_again R Inner again at end string document code scope text inner =
    let read : R end document ≡ Ok (scope, []) = ap (R end) (sym (append-nil document)) ∙ (again end document [] scope inner).0 in
    rw (string_again end string code document text, read) refl

scope_takes : (R : Reader) (Inner : List ℕ → Document → Type 0) → TakesAll R Inner → (end : ℕ) (bytes : List ℕ) (x : (List ℕ × Document) × List ℕ) → scope_at R end bytes ≡ Ok x → Took (λ spelling. IsScope Inner spelling x.0.0 x.0.1) bytes x.1
unfolding scope_at
scope_takes R Inner takes end bytes x e =
    let at : ℕ = end - length bytes in
    let a = bind_ok (length_at 14 4 end bytes) (λ n. inside_scope_at R at (at + n.0) (take (n.0 - 4) n.1) >>= (λ parts. Ok (parts, drop (n.0 - 4) n.1))) x e in
    let n : ℕ = a.0.0 in
    let inside : List ℕ = take (n - 4) a.0.1 in
    let rest : List ℕ = drop (n - 4) a.0.1 in
    let b = mapped-Ok (λ parts. (parts, rest)) (inside_scope_at R at (at + n) inside) x a.2 in
    let l = length_takes 14 4 end bytes a.0 a.1 in
    let s = inside_takes R Inner takes at (at + n) inside b.0 b.1 in
    let count : length inside ≡ n - 4 = length-take-le (n - 4) a.0.1 (omega (arith, l.high)) in
    let total : n ≡ length s.string + length s.document + 4 = omega (arith, count, ap length s.parts, length-append s.string s.document, l.low) in
    subst (λ (y : (List ℕ × Document) × List ℕ). Took (λ spelling. IsScope Inner spelling y.0.0 y.0.1) bytes y.1) b.2 (record {
      spelling = l.number ++ (s.string ++ s.document);
      parts = l.parts ∙ ap (λ (xs : List ℕ). l.number ++ xs) (sym (take-append-drop (n - 4) a.0.1) ∙ ap (λ (xs : List ℕ). xs ++ rest) s.parts) ∙ sym (append_assoc l.number (s.string ++ s.document) rest);
      is = record { number = l.number; string = s.string; document = s.document; counts = subst (IsNumber32 l.number) total l.counts; parts = refl; text = s.text; inner = s.inner };
    })

string_least : (bytes text : List ℕ) → IsString bytes text → 5 ≤ length bytes
string_least bytes text is = omega (arith, ap length is.parts, is.counts.size, length-append is.number (text ++ 0 ∷ []), length-append text (0 ∷ []))

scope_again : (R : Reader) (Inner : List ℕ → Document → Type 0) → ReadsAll R Inner → (end : ℕ) (bytes code : List ℕ) (scope : Document) (rest : List ℕ) → IsScope Inner bytes code scope → scope_at R end (bytes ++ rest) ≡ Ok ((code, scope), rest)
unfolding scope_at
scope_again R Inner again end bytes code scope rest is =
    let n : ℕ = length is.string + length is.document + 4 in
    let inside : List ℕ = is.string ++ is.document in
    let behind : List ℕ = inside ++ rest in
    let regrouped : bytes ++ rest ≡ is.number ++ behind = ap (λ (xs : List ℕ). xs ++ rest) is.parts ∙ append_assoc is.number inside rest in
    let at : ℕ = end - length (is.number ++ behind) in
    let size : length inside ≡ n - 4 = omega (arith, length-append is.string is.document) in
    let front : take (n - 4) behind ≡ inside = take_at inside rest (n - 4) size in
    let back : drop (n - 4) behind ≡ rest = drop_at inside rest (n - 4) size in
    let low : 14 ≤ n = omega (arith, string_least is.string code is.text, (again end is.document [] scope is.inner).1) in
    ap (scope_at R end) regrouped
    ∙ rw (length_again 14 4 end n is.number behind is.counts low (omega (arith, size, length-append inside rest)), front, back, inside_again R Inner again at (at + n) is.string is.document code scope is.text is.inner) refl

-- ---- values

-- what was taken for a value of a kind
pub record TakesValue (Inner : List ℕ → Document → Type 0) (kind : Kind) (bytes : List ℕ) (v : Value) (rest : List ℕ) : Type 0 where
  pub payload : List ℕ
  pub parts : bytes ≡ payload ++ rest
  pub is : IsPayload Inner kind payload (out-Value v)

value_takes : (R : Reader) (Inner : List ℕ → Document → Type 0) → TakesAll R Inner → (start end : ℕ) (kind : Kind) (bytes : List ℕ) (x : Value × List ℕ) → value_at R start end kind bytes ≡ Ok x → TakesValue Inner kind bytes x.0 x.1
unfolding value_at
value_takes R Inner takes start end kinds.Doc bytes x e =
    let m = mapped-Ok (λ y. (value.Doc y.0, y.1)) (R end bytes) x e in
    let t = takes end bytes m.0 m.1 in
    subst (λ (y : Value × List ℕ). TakesValue Inner kinds.Doc bytes y.0 y.1) m.2 (record { payload = t.text; parts = t.parts; is = rw (outs-Doc m.0.0) (refl, t.inner) })
value_takes R Inner takes start end kinds.Array bytes x e =
    let m = mapped-Ok (λ y. (value.Array y.0, y.1)) (unnamed_document (R end bytes)) x e in
    let n = mapped-Ok (λ y. (values y.0.elements, y.1)) (R end bytes) m.0 m.1 in
    let t = takes end bytes n.0 n.1 in
    let is : IsArray Inner t.text m.0.0 = record { document = n.0.0; inner = t.inner; same = ap (λ (p : List Value × List ℕ). p.0) n.2 } in
    subst (λ (y : Value × List ℕ). TakesValue Inner kinds.Array bytes y.0 y.1) m.2 (record {
      payload = t.text;
      parts = t.parts ∙ ap (λ (xs : List ℕ). t.text ++ xs) (ap (λ (p : List Value × List ℕ). p.1) n.2);
      is = rw (outs-Array m.0.0) (refl, is);
    })
value_takes R Inner takes start end kinds.Scope bytes x e =
    let m = mapped-Ok (λ y. (value.Scope y.0.0 y.0.1, y.1)) (scope_at R end bytes) x e in
    let t = scope_takes R Inner takes end bytes m.0 m.1 in
    subst (λ (y : Value × List ℕ). TakesValue Inner kinds.Scope bytes y.0 y.1) m.2 (record { payload = t.spelling; parts = t.parts; is = rw (outs-Scope m.0.0.0 m.0.0.1) (refl, t.is) })
value_takes R Inner takes start end (kinds.Plain kind) bytes x e =
    let t = plain_takes Inner start end kind bytes x e in
    record { payload = t.payload; parts = t.parts; is = t.is }

doc_payload : (Inner : List ℕ → Document → Type 0) (bytes : List ℕ) (w : Value-F Value Document) → IsPayload Inner kinds.Doc bytes w → (d : Document) × (w ≡ layer.Doc d) × Inner bytes d
doc_payload Inner bytes (layer.Doc d) h = (d, refl, h.1)
doc_payload Inner bytes w h = absurd cc

array_payload : (Inner : List ℕ → Document → Type 0) (bytes : List ℕ) (w : Value-F Value Document) → IsPayload Inner kinds.Array bytes w → (items : List Value) × (w ≡ layer.Array items) × IsArray Inner bytes items
array_payload Inner bytes (layer.Array items) h = (items, refl, h.1)
array_payload Inner bytes w h = absurd cc

scope_payload : (Inner : List ℕ → Document → Type 0) (bytes : List ℕ) (w : Value-F Value Document) → IsPayload Inner kinds.Scope bytes w → (code : List ℕ) × (scope : Document) × (w ≡ layer.Scope code scope) × IsScope Inner bytes code scope
scope_payload Inner bytes (layer.Scope code scope) h = (code, scope, refl, h.1)
scope_payload Inner bytes w h = absurd cc

value_again : (R : Reader) (Inner : List ℕ → Document → Type 0) → ReadsAll R Inner → (start end : ℕ) (kind : Kind) (payload rest : List ℕ) (v : Value) → IsPayload Inner kind payload (out-Value v) → value_at R start end kind (payload ++ rest) ≡ Ok (v, rest)
unfolding value_at
value_again R Inner again start end kinds.Doc payload rest v h =
    let p = doc_payload Inner payload (out-Value v) h in
    let made : value.Doc p.0 ≡ v = sym (rolls-Doc p.0) ∙ ap roll-Value (sym p.1) ∙ roll-out-Value v in
    rw ((again end payload rest p.0 p.2).0) (ap (λ (u : Value). Ok (u, rest)) made)
value_again R Inner again start end kinds.Array payload rest v h =
    let p = array_payload Inner payload (out-Value v) h in
    let made : value.Array p.0 ≡ v = sym (rolls-Array p.0) ∙ ap roll-Value (sym p.1) ∙ roll-out-Value v in
    let is : IsArray Inner payload p.0 = p.2 in
    rw ((again end payload rest is.document is.inner).0) (ap (λ (vs : List Value). Ok (value.Array vs, rest)) is.same ∙ ap (λ (u : Value). Ok (u, rest)) made)
value_again R Inner again start end kinds.Scope payload rest v h =
    let p = scope_payload Inner payload (out-Value v) h in
    let made : value.Scope p.0 p.1 ≡ v = sym (rolls-Scope p.0 p.1) ∙ ap roll-Value (sym p.2) ∙ roll-out-Value v in
    rw (scope_again R Inner again end payload p.0 p.1 rest p.3) (ap (λ (u : Value). Ok (u, rest)) made)
value_again R Inner again start end (kinds.Plain kind) payload rest v h =
    plain_again Inner start end kind payload rest v (out-Value v) (roll-out-Value v) h

-- ---- elements

kind_again : (start at : ℕ) (kind : Kind) → kind_at start at (byte_of kind) ≡ Ok kind
kind_again start at kinds.Doc = refl
kind_again start at kinds.Array = refl
kind_again start at kinds.Scope = refl
kind_again start at (kinds.Plain plain.Double) = refl
kind_again start at (kinds.Plain plain.Str) = refl
kind_again start at (kinds.Plain plain.Binary) = refl
kind_again start at (kinds.Plain plain.Undefined) = refl
kind_again start at (kinds.Plain plain.Oid) = refl
kind_again start at (kinds.Plain plain.Bool) = refl
kind_again start at (kinds.Plain plain.Date) = refl
kind_again start at (kinds.Plain plain.Null) = refl
kind_again start at (kinds.Plain plain.Regex) = refl
kind_again start at (kinds.Plain plain.DbPointer) = refl
kind_again start at (kinds.Plain plain.Code) = refl
kind_again start at (kinds.Plain plain.Symbol) = refl
kind_again start at (kinds.Plain plain.Int32) = refl
kind_again start at (kinds.Plain plain.Stamp) = refl
kind_again start at (kinds.Plain plain.Int64) = refl
kind_again start at (kinds.Plain plain.Decimal) = refl
kind_again start at (kinds.Plain plain.Max) = refl
kind_again start at (kinds.Plain plain.Min) = refl

some_is : (a b : Kind) → Some a ≡ Some b → a ≡ b
some_is a b e = cc

-- a test that picks a kind
picked : (b n : ℕ) (kind found : Kind) (others : Option Kind) → byte_of found ≡ n → (others ≡ Some kind → b ≡ byte_of kind) → cond (eqb b n) (Some found) others ≡ Some kind → b ≡ byte_of kind
picked b n kind found others e h picks =
    elim (cases_Bool (eqb b n)) [
      | inl hit ↦
          let same : found ≡ kind = some_is found kind (sym (cond-true (eqb b n) (Some found) others hit) ∙ picks) in
          eqb-true b n hit ∙ sym e ∙ ap byte_of same
      | inr no_kind_here ↦ h (sym (cond-false (eqb b n) (Some found) others no_kind_here) ∙ picks)
    ]

kind_of_byte-Some : (b : ℕ) (kind : Kind) → kind_of_byte b ≡ Some kind → b ≡ byte_of kind
kind_of_byte-Some b kind =
    picked b 0x01 kind (kinds.Plain plain.Double) _ refl (
    picked b 0x02 kind (kinds.Plain plain.Str) _ refl (
    picked b 0x03 kind kinds.Doc _ refl (
    picked b 0x04 kind kinds.Array _ refl (
    picked b 0x05 kind (kinds.Plain plain.Binary) _ refl (
    picked b 0x06 kind (kinds.Plain plain.Undefined) _ refl (
    picked b 0x07 kind (kinds.Plain plain.Oid) _ refl (
    picked b 0x08 kind (kinds.Plain plain.Bool) _ refl (
    picked b 0x09 kind (kinds.Plain plain.Date) _ refl (
    picked b 0x0a kind (kinds.Plain plain.Null) _ refl (
    picked b 0x0b kind (kinds.Plain plain.Regex) _ refl (
    picked b 0x0c kind (kinds.Plain plain.DbPointer) _ refl (
    picked b 0x0d kind (kinds.Plain plain.Code) _ refl (
    picked b 0x0e kind (kinds.Plain plain.Symbol) _ refl (
    picked b 0x0f kind kinds.Scope _ refl (
    picked b 0x10 kind (kinds.Plain plain.Int32) _ refl (
    picked b 0x11 kind (kinds.Plain plain.Stamp) _ refl (
    picked b 0x12 kind (kinds.Plain plain.Int64) _ refl (
    picked b 0x13 kind (kinds.Plain plain.Decimal) _ refl (
    picked b 0x7f kind (kinds.Plain plain.Max) _ refl (
    picked b 0xff kind (kinds.Plain plain.Min) None refl (λ e. absurd cc)))))))))))))))))))))

or_fault-Some : (f : BsonFault) (o : Option Kind) (kind : Kind) → or_fault f o ≡ Ok kind → o ≡ Some kind
or_fault-Some f None kind e = absurd cc
or_fault-Some f (Some k) kind e = ap (λ (x : Kind). Some x) (ok_is k kind e)

-- what was taken for an element, its type byte in front
pub record TakesElement (Inner : List ℕ → Document → Type 0) (bytes : List ℕ) (e : Element) (rest : List ℕ) : Type 0 where
  pub text : List ℕ
  pub parts : bytes ≡ text ++ rest
  pub is : IsElement Inner text e

pub element_takes : (R : Reader) (Inner : List ℕ → Document → Type 0) → TakesAll R Inner → (start end byte : ℕ) (bytes : List ℕ) (x : Element × List ℕ) → element_at R start end byte bytes ≡ Ok x → TakesElement Inner (byte ∷ bytes) x.0 x.1
unfolding element_at
element_takes R Inner takes start end byte bytes x e =
    let at : ℕ = end - length bytes - 1 in
    let a = bind_ok (kind_at start at byte) (λ kind. name_at start end bytes >>= (λ name. value_at R start end kind name.1 >>= (λ y. Ok ((name.0, y.0), y.1)))) x e in
    let kind : Kind = a.0 in
    let b = bind_ok (name_at start end bytes) (λ name. value_at R start end kind name.1 >>= (λ y. Ok ((name.0, y.0), y.1))) x a.2 in
    let name : List ℕ = b.0.0 in
    let c = mapped-Ok (λ y. ((name, y.0), y.1)) (value_at R start end kind b.0.1) x b.2 in
    let byte_is : byte ≡ byte_of kind = kind_of_byte-Some byte kind (or_fault-Some (no_kind start at byte) (kind_of_byte byte) kind a.1) in
    let n = name_takes start end bytes b.0 b.1 in
    let v = value_takes R Inner takes start end kind b.0.1 c.0 c.1 in
    let behind : bytes ≡ (name ++ 0 ∷ v.payload) ++ c.0.1 = n.0 ∙ ap (λ (xs : List ℕ). name ++ 0 ∷ xs) v.parts ∙ sym (append_assoc name (0 ∷ v.payload) c.0.1) in
    subst (λ (y : Element × List ℕ). TakesElement Inner (byte ∷ bytes) y.0 y.1) c.2 (record {
      text = byte_of kind ∷ (name ++ 0 ∷ v.payload);
      parts = ap (λ (k : ℕ). k ∷ bytes) byte_is ∙ ap (λ (xs : List ℕ). byte_of kind ∷ xs) behind;
      is = record { kind = kind; payload = v.payload; parts = refl; name = n.1; value = v.is };
    })

element_again : (R : Reader) (Inner : List ℕ → Document → Type 0) → ReadsAll R Inner → (start end : ℕ) (kind : Kind) (payload rest : List ℕ) (e : Element) (text : List ℕ) (is : IsElement Inner text e)
    → element_at R start end (byte_of is.kind) ((e.0 ++ 0 ∷ is.payload) ++ rest) ≡ Ok (e, rest)
unfolding element_at
element_again R Inner again start end kind payload rest e text is =
    let behind : List ℕ = is.payload ++ rest in
    let all : List ℕ = e.0 ++ 0 ∷ behind in
    ap (element_at R start end (byte_of is.kind)) (append_assoc e.0 (0 ∷ is.payload) rest)
    ∙ rw (kind_again start (end - length all - 1) is.kind, name_again start end e.0 behind is.name, value_again R Inner again start end is.kind is.payload rest e.1 is.value) refl

elements_take : (R : Reader) (Inner : List ℕ → Document → Type 0) → TakesAll R Inner → (fuel start end : ℕ) (bytes : List ℕ) (es : List Element) → elements_at R fuel start end bytes ≡ Ok es → AreElements Inner bytes es
unfolding elements_at
elements_take R Inner takes zero start end [] es e = subst (AreElements Inner []) (ok_is [] es e) refl
elements_take R Inner takes zero start end (byte ∷ bytes) es e = absurd cc
elements_take R Inner takes (suc fuel) start end [] es e = subst (AreElements Inner []) (ok_is [] es e) refl
elements_take R Inner takes (suc fuel) start end (byte ∷ bytes) es e =
    let a = bind_ok (element_at R start end byte bytes) (λ first. elements_at R fuel start end first.1 >>= (λ others. Ok (first.0 ∷ others))) es e in
    let b = mapped-Ok (λ others. a.0.0 ∷ others) (elements_at R fuel start end a.0.1) es a.2 in
    let t = element_takes R Inner takes start end byte bytes a.0 a.1 in
    let more = elements_take R Inner takes fuel start end a.0.1 b.0 b.1 in
    subst (AreElements Inner (byte ∷ bytes)) b.2 (t.text, a.0.1, t.parts, t.is, more)

elements_again : (R : Reader) (Inner : List ℕ → Document → Type 0) → ReadsAll R Inner → (es : List Element) (fuel start end : ℕ) (bytes : List ℕ) → length bytes ≤ fuel → AreElements Inner bytes es → elements_at R fuel start end bytes ≡ Ok es
unfolding elements_at
elements_again R Inner again [] zero start end bytes le h = rw h refl
elements_again R Inner again [] (suc fuel) start end bytes le h = rw h refl
elements_again R Inner again (e ∷ es) zero start end bytes le (first, others, parts, is, more) =
    let cut : bytes ≡ byte_of is.kind ∷ ((e.0 ++ 0 ∷ is.payload) ++ others) = parts ∙ ap (λ (xs : List ℕ). xs ++ others) is.parts in
    absurd (omega (arith, ap length cut))
elements_again R Inner again (e ∷ es) (suc fuel) start end bytes le (first, others, parts, is, more) =
    let behind : List ℕ = e.0 ++ 0 ∷ is.payload in
    let cut : bytes ≡ byte_of is.kind ∷ (behind ++ others) = parts ∙ ap (λ (xs : List ℕ). xs ++ others) is.parts in
    let fits : length others ≤ fuel = omega (arith, ap length cut, length-append behind others) in
    ap (elements_at R (suc fuel) start end) cut
    ∙ rw (element_again R Inner again start end is.kind is.payload others e first is, elements_again R Inner again es fuel start end others fits more) refl

-- ---- documents

-- what was taken for the body of a document
pub record TakesBody (Inner : List ℕ → Document → Type 0) (n : ℕ) (bytes : List ℕ) (d : Document) (rest : List ℕ) : Type 0 where
  pub body : List ℕ
  pub parts : bytes ≡ body ++ 0 ∷ rest
  pub count : length body + 5 ≡ n
  pub elements : AreElements Inner body d.elements

pub body_takes : (R : Reader) (Inner : List ℕ → Document → Type 0) → TakesAll R Inner → (start n : ℕ) (bytes : List ℕ) (x : Document × List ℕ) → 5 ≤ n → n ≤ length bytes + 4 → body_at R start n bytes ≡ Ok x → TakesBody Inner n bytes x.0 x.1
unfolding body_at
body_takes R Inner takes start n bytes x low high e =
    let inside : List ℕ = take (n - 5) bytes in
    let after : List ℕ = drop (n - 5) bytes in
    let a = bind_ok (elements_at R n start (start + n - 1) inside) (λ es. behind_zero start after >>= (λ rest. Ok (document_of es, rest))) x e in
    let b = mapped-Ok (λ rest. (document_of a.0, rest)) (behind_zero start after) x a.2 in
    let count : length inside ≡ n - 5 = length-take-le (n - 5) bytes (omega arith) in
    subst (λ (y : Document × List ℕ). TakesBody Inner n bytes y.0 y.1) b.2 (record {
      body = inside;
      parts = sym (take-append-drop (n - 5) bytes) ∙ ap (λ (xs : List ℕ). inside ++ xs) (zero_takes start after b.0 b.1);
      count = omega (arith, count);
      elements = elements_take R Inner takes n start (start + n - 1) inside a.0 a.1;
    })

pub body_again : (R : Reader) (Inner : List ℕ → Document → Type 0) → ReadsAll R Inner → (start : ℕ) (body rest : List ℕ) (d : Document) → AreElements Inner body d.elements → body_at R start (length body + 5) (body ++ 0 ∷ rest) ≡ Ok (d, rest)
unfolding body_at
body_again R Inner again start body rest d h =
    let n : ℕ = length body + 5 in
    let all : List ℕ = body ++ 0 ∷ rest in
    let front : take (n - 5) all ≡ body = take_at body (0 ∷ rest) (n - 5) (omega arith) in
    let back : drop (n - 5) all ≡ 0 ∷ rest = drop_at body (0 ∷ rest) (n - 5) (omega arith) in
    rw (front, back, elements_again R Inner again d.elements n start (start + n - 1) body (omega arith) h) refl

pub document_takes : (levels : ℕ) → TakesAll (document_at levels) (SpellsWithin levels)
unfolding document_at SpellsWithin
document_takes zero end bytes x e = absurd cc
document_takes (suc levels) end bytes x e =
    let R : Reader = document_at levels in
    let at : ℕ = end - length bytes in
    let a = bind_ok (length_at 5 4 end bytes) (λ n. body_at R at n.0 n.1) x e in
    let l = length_takes 5 4 end bytes a.0 a.1 in
    let b = body_takes R (SpellsWithin levels) (document_takes levels) at a.0.0 a.0.1 x l.low l.high a.2 in
    record {
      text = l.number ++ (b.body ++ 0 ∷ []);
      parts = l.parts ∙ ap (λ (xs : List ℕ). l.number ++ xs) (b.parts ∙ sym (append_assoc b.body (0 ∷ []) x.1)) ∙ sym (append_assoc l.number (b.body ++ 0 ∷ []) x.1);
      inner = record { number = l.number; body = b.body; counts = rw b.count l.counts; parts = refl; elements = b.elements };
    }

pub document_again : (levels : ℕ) → ReadsAll (document_at levels) (SpellsWithin levels)
unfolding document_at SpellsWithin
document_again zero end text rest d h = absurd h
document_again (suc levels) end text rest d h =
    let R : Reader = document_at levels in
    let n : ℕ = length h.body + 5 in
    let behind : List ℕ = h.body ++ 0 ∷ rest in
    let all : List ℕ = h.number ++ behind in
    let regrouped : text ++ rest ≡ all =
    ap (λ (xs : List ℕ). xs ++ rest) h.parts ∙ append_assoc h.number (h.body ++ 0 ∷ []) rest ∙ ap (λ (xs : List ℕ). h.number ++ xs) (append_assoc h.body (0 ∷ []) rest) in
    let read : document_at (suc levels) end (text ++ rest) ≡ Ok (d, rest) =
    ap (document_at (suc levels) end) regrouped
    ∙ rw (length_again 5 4 end n h.number behind h.counts (omega arith) (omega (arith, length-append h.body (0 ∷ rest)))) (body_again R (SpellsWithin levels) (document_again levels) (end - length all) h.body rest d h.elements) in
    (read, omega (arith, ap length h.parts, h.counts.size, length-append h.number (h.body ++ 0 ∷ []), length-append h.body (0 ∷ [])))
