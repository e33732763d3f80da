-- How many bytes the parts of a spelling have.
use Rattle.std.proofs.Common.{◌≡◌, ℕ, ◌+◌, ◌<◌, min, List, [], ◌∷◌, ◌++◌, length, drop, get_or, map, decimal, ap, ◌∙◌, arith}
use Rattle.std.proofs.lemmas.List.{length-append}
use Rattle.bson_doc.specs.declared.name.Name.{Name}
use Rattle.bson_doc.specs.declared.value.Value.{Value}
use Rattle.bson_doc.specs.wire.Spelled.{Payload, string, scope, regex, element, numbered, payload, spelled_elements}
use Rattle.bson_wire.proofs.Written.{elements_left, items_left}

pub length-element : (name : List ℕ) (v : Payload) → length (element name v) ≡ length name + length v.1 + 2
length-element name v = omega (arith, length-append name (0 ∷ v.1))

pub length-string : (text : List ℕ) → length (string text) ≡ length text + 5
length-string text = omega (arith, length-append text (0 ∷ []))

pub length-regex : (pattern options : List ℕ) → length (regex pattern options) ≡ length pattern + length options + 2
length-regex pattern options = omega (arith, length-append pattern (0 ∷ (options ++ 0 ∷ [])), length-append options (0 ∷ []))

pub length-scope : (code inside : List ℕ) → length (scope code inside) ≡ length code + length inside + 4
length-scope code inside = omega (arith, length-append code inside)

-- What is left of a document's elements, and of an array's items, one on.
pub length-elements_left : (es : List (Name × Value)) (i : ℕ) (e : Name × Value) → i < length es → e ≡ get_or es i e
    → length (spelled_elements (drop i es)) ≡ length e.0 + length (payload e.1).1 + 2 + length (spelled_elements (drop (i + 1) es))
length-elements_left es i e lt is =
    ap length (elements_left es i e lt is) ∙ omega (arith, length-append (element e.0 (payload e.1)) (spelled_elements (drop (i + 1) es)), length-element e.0 (payload e.1))

pub length-items_left : (vs : List Value) (i : ℕ) (v : Value) → i < length vs → v ≡ get_or vs i v
    → length (numbered i (map payload (drop i vs))) ≡ length (decimal i) + length (payload v).1 + 2 + length (numbered (i + 1) (map payload (drop (i + 1) vs)))
length-items_left vs i v lt is =
    ap length (items_left vs i v lt is) ∙ omega (arith, length-append (element (decimal i) (payload v)) (numbered (i + 1) (map payload (drop (i + 1) vs))), length-element (decimal i) (payload v))

pub length-pointer : (space id : List ℕ) → length (string space ++ id) ≡ length space + 5 + length id
length-pointer space id = omega (arith, length-append (string space) id, length-string space)

-- A sum that stays at a bound, one on.
pub sum_one_on : (total more left after whole bound new text : ℕ) → min (total + left) bound ≡ min whole bound → left ≡ text + after
    → more ≡ min text bound → new ≡ min (total + more) bound → min (new + after) bound ≡ min whole bound
sum_one_on total more left after whole bound new text h cut e k = omega arith
