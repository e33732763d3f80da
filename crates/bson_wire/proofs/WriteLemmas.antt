-- What elements are made of, as they are written.
use Rattle.std.proofs.Common.{◌≡◌, ◌≤◌, ◌+◌, ℕ, List, [], ◌∷◌, ◌++◌, length, take, drop, decimal, refl, sym, ap, subst, ◌∙◌, append_assoc, arith}
use Rattle.std.specs.Prelude.{IsUtf8}
use Rattle.std.specs.List.{AllByRecursion}
use Rattle.std.proofs.lemmas.Fmt.{decimal_digit}
use Rattle.std.proofs.lemmas.List.{append-nil, length-append}
use Rattle.std.proofs.Math.Seq.{drop-append_seam, take-append_seam}
use Rattle.bson_doc.specs.Names.{HasNoZero}
use Rattle.bson_doc.specs.declared.kind.Kind.{Kind}
use Rattle.bson_doc.specs.declared.kind.Kind.TheVariants as kinds
use Rattle.bson_doc.specs.declared.name.Name.{Name}
use Rattle.bson_doc.specs.declared.value.Document.{Document}
use Rattle.bson_doc.specs.declared.value.Value.{Value, Array, Doc}
use Rattle.bson_doc.specs.wire.Kinds.{byte_of}
use Rattle.bson_doc.specs.wire.Limits.{most_bytes}
use Rattle.bson_doc.specs.wire.Spelled.{Payload, document, element, payload, spelled_elements}
use Rattle.bson_doc.specs.wire.Spelling.{IsName}
use Rattle.bson_wire.specs.Written.{ElementSpells, PayloadSpells}
use Rattle.bson_wire.proofs.Payloads.{payload-Array, payload-Doc}
use Rattle.bson_wire.proofs.Written.{array_spells, doc_spells}
use Rattle.bson_wire.specs.Writes.{Begins, Ends, Writes, room}

-- A name in UTF-8 that has no 00.
pub name-is : (name : List ℕ) → HasNoZero name → IsUtf8 name → IsName name
name-is name no_zero utf8 = record { no_zero = no_zero; utf8 = utf8 }

front-behind : (old name : List ℕ) (b : ℕ) (p : List ℕ) → (old ++ (b ∷ (name ++ 0 ∷ []))) ++ p ≡ old ++ ((b ∷ (name ++ 0 ∷ p)) ++ [])
front-behind old name b p =
    append_assoc old (b ∷ (name ++ 0 ∷ [])) p
    ∙ ap (λ (xs : List ℕ). old ++ (b ∷ xs)) (append_assoc name (0 ∷ []) p ∙ sym (append-nil (name ++ 0 ∷ p)))

-- A front and a payload make an element.
pub wrote-one : (before old mid new name p : List ℕ) (k : Kind) (v : Value) → before ≡ old → payload v ≡ (k, p) → mid ≡ before ++ (byte_of k ∷ (name ++ 0 ∷ [])) →
    new ≡ mid ++ p → IsName name → PayloadSpells v → Writes old new ((name, v) ∷ [])
wrote-one before old mid new name p k v same is front behind named spells = record {
  bytes =
      behind ∙ ap (λ (xs : List ℕ). xs ++ p) (front ∙ ap (λ (xs : List ℕ). xs ++ (byte_of k ∷ (name ++ 0 ∷ []))) same) ∙ front-behind old name (byte_of k) p
      ∙ ap (λ (q : Payload). old ++ (element name q ++ [])) (sym is);
  known = ((named, spells), tt);
}

-- ---- Elements one behind another

spelled_elements-append : (es fs : List (Name × Value)) → spelled_elements (es ++ fs) ≡ spelled_elements es ++ spelled_elements fs
spelled_elements-append [] fs = refl
spelled_elements-append (e ∷ es) fs =
    ap (λ (xs : List ℕ). element e.0 (payload e.1) ++ xs) (spelled_elements-append es fs) ∙ sym (append_assoc (element e.0 (payload e.1)) (spelled_elements es) (spelled_elements fs))

known-append : (es fs : List (Name × Value)) → AllByRecursion ElementSpells es → AllByRecursion ElementSpells fs → AllByRecursion ElementSpells (es ++ fs)
known-append [] fs known more = more
known-append (e ∷ es) fs known more = (known.0, known-append es fs known.1 more)

-- Nothing was written.
pub wrote-none : (old : List ℕ) → Writes old old []
wrote-none old = record { bytes = sym (append-nil old); known = tt }

pub wrote-more : {a b c : List ℕ} {es fs : List (Name × Value)} → Writes a b es → Writes b c fs → Writes a c (es ++ fs)
wrote-more {a} {b} {c} {es} {fs} first then = record {
  bytes =
      then.bytes ∙ ap (λ (xs : List ℕ). xs ++ spelled_elements fs) first.bytes ∙ append_assoc a (spelled_elements es) (spelled_elements fs)
      ∙ ap (λ (xs : List ℕ). a ++ xs) (sym (spelled_elements-append es fs));
  known = known-append es fs first.known then.known;
}

-- ---- Documents and arrays that are written inside

-- What stands in front of the room of a total.
abbrev opening : List ℕ → ℕ → List ℕ → List ℕ
opening old b name = old ++ (b ∷ (name ++ 0 ∷ []))

opened-by : (old name : List ℕ) (b : ℕ) → old ++ (b ∷ (name ++ 0 ∷ room)) ≡ opening old b name ++ room
opened-by old name b = sym (append_assoc old (b ∷ (name ++ 0 ∷ [])) room ∙ ap (λ (xs : List ℕ). old ++ (b ∷ xs)) (append_assoc name (0 ∷ []) room))

ended : (old name body at1 at2 new : List ℕ) (b start : ℕ) → at1 ≡ old ++ (b ∷ (name ++ 0 ∷ room)) → start + 4 ≡ length at1 → at2 ≡ at1 ++ body →
    new ≡ take start at2 ++ document (drop (start + 4) at2) → (drop (start + 4) at2 ≡ body) × (new ≡ old ++ ((b ∷ (name ++ 0 ∷ document body)) ++ []))
ended old name body at1 at2 new b start opens place more ends = (inside, whole)
  where
    front : List ℕ
    front = opening old b name

    first : at1 ≡ front ++ room
    first = opens ∙ opened-by old name b

    at : start ≡ length front
    at = omega (arith, place, ap length first, length-append front room)

    inside : drop (start + 4) at2 ≡ body
    inside = ap (λ (xs : List ℕ). drop (start + 4) xs) more ∙ ap (λ (n : ℕ). drop n (at1 ++ body)) place ∙ drop-append_seam at1 body

    ahead : take start at2 ≡ front
    ahead =
        ap (λ (xs : List ℕ). take start xs) (more ∙ ap (λ (xs : List ℕ). xs ++ body) first ∙ append_assoc front room body)
        ∙ ap (λ (n : ℕ). take n (front ++ (room ++ body))) at ∙ take-append_seam front (room ++ body)

    whole : new ≡ old ++ ((b ∷ (name ++ 0 ∷ document body)) ++ [])
    whole = ends ∙ ap (λ (xs : List ℕ). xs ++ document (drop (start + 4) at2)) ahead ∙ ap (λ (xs : List ℕ). front ++ document xs) inside ∙ front-behind old name b (document body)

wrote-inside : (k : Kind) (v : Value) (old name at1 at2 new : List ℕ) (start : ℕ) (es : List (Name × Value)) → payload v ≡ (k, document (spelled_elements es)) →
    (length (document (spelled_elements es)) ≤ most_bytes → PayloadSpells v) → Begins k name old at1 start → Writes at1 at2 es → Ends start at2 new → Writes old new ((name, v) ∷ [])
wrote-inside k v old name at1 at2 new start es is spells begins writes ends =
    let parts = ended old name (spelled_elements es) at1 at2 new (byte_of k) start begins.bytes begins.place writes.bytes ends.bytes in
    record {
      bytes = parts.1 ∙ ap (λ (q : Payload). old ++ (element name q ++ [])) (sym is);
      known = ((begins.is_name, spells (subst (λ (xs : List ℕ). length (document xs) ≤ most_bytes) parts.0 ends.size)), tt);
    }

-- A document whose elements were written between its beginning and its end.
pub wrote-document : {old name at1 at2 new : List ℕ} {start : ℕ} {es : List (Name × Value)} → Begins kinds.Doc name old at1 start → Writes at1 at2 es → Ends start at2 new →
    Writes old new ((name, Doc (record { elements = es })) ∷ [])
wrote-document {old} {name} {at1} {at2} {new} {start} {es} begins writes ends =
    let d : Document = record { elements = es } in
    wrote-inside kinds.Doc (Doc d) old name at1 at2 new start es (payload-Doc (Doc d) d refl) (λ small. doc_spells (Doc d) d refl writes.known small) begins writes ends

-- An array of one value that was written between its beginning and its end.
pub wrote-array : {old name at1 at2 new : List ℕ} {start : ℕ} {v : Value} → Begins kinds.Array name old at1 start → Writes at1 at2 ((48 ∷ [], v) ∷ []) → Ends start at2 new →
    Writes old new ((name, Array (v ∷ [])) ∷ [])
wrote-array {old} {name} {at1} {at2} {new} {start} {v} begins writes ends =
    wrote-inside kinds.Array (Array (v ∷ [])) old name at1 at2 new start ((48 ∷ [], v) ∷ []) (payload-Array (Array (v ∷ [])) (v ∷ []) refl ∙ ap (λ (xs : List ℕ). (kinds.Array, document xs)) same)
    (λ small. array_spells (Array (v ∷ [])) (v ∷ []) refl (writes.known.0.1, tt) (subst (λ (xs : List ℕ). length (document xs) ≤ most_bytes) (sym same) small)) begins writes ends
  where
    same : element (decimal 0) (payload v) ++ [] ≡ element (48 ∷ []) (payload v) ++ []
    same = ap (λ (digits : List ℕ). element digits (payload v) ++ []) (decimal_digit 0 (omega arith))

-- Behind what began at a place there is room for its total, whatever was written.
pub has-room : (at1 at2 : List ℕ) (start : ℕ) (es : List (Name × Value)) → start + 4 ≡ length at1 → Writes at1 at2 es → start + 4 ≤ length at2
has-room at1 at2 start es place writes = omega (arith, place, ap length writes.bytes, length-append at1 (spelled_elements es))
