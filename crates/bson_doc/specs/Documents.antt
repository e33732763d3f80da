-- What is read off a document: its depth, the value of a name, whether a value is one (bsonspec 1.1, document).
use Rattle.std.specs.Prelude.{ℕ, ◌+◌, ◌==◌, max, pos, Bool, false, List, [], ◌∷◌, Option, find}
use Rattle.std.specs.Option.{option_map}
use Rattle.std.specs.Cmp.Lexicographic.{pointwise}
use Rattle.std.specs.Ordering.{int_eq}
use Rattle.bson_doc.specs.declared.name.Name.{Name}
use Rattle.bson_doc.specs.declared.value.Document.{Document, Document-F, fold-Document}
use Rattle.bson_doc.specs.declared.value.Value.{Value, Value-F, fold-Value}
use Rattle.bson_doc.specs.declared.value.Value.TheVariants.{Double, Int32, Int64}
use Rattle.bson_doc.specs.declared.value.Value.TheOpen as layer

-- The greatest of what f gives for the items, 0 where there are none.
abbrev pub greatest : {X : Type 0} → (X → ℕ) → List X → ℕ
greatest f [] = 0
greatest f (x ∷ xs) = max (f x) (greatest f xs)

-- A document lies one level above the deepest of its values; its values stand here by their own depths.
abbrev pub document_step : Document-F ℕ ℕ → ℕ
document_step d = 1 + greatest (λ e. e.1) d.elements

-- A value without documents inside has no depth; an array counts as a document does, and code with a scope as its scope.
abbrev pub value_step : Value-F ℕ ℕ → ℕ
value_step (layer.Doc d) = d
value_step (layer.Scope code d) = d
value_step (layer.Array ds) = 1 + greatest (λ d. d) ds
value_step _ = 0

-- How deep documents and arrays lie in one another (own): 1 for a document without any inside.
abbrev pub depth_of : Document → ℕ
depth_of = fold-Document ℕ ℕ value_step document_step

-- The depth of a value.
abbrev pub depth_inside : Value → ℕ
depth_inside = fold-Value ℕ ℕ value_step document_step

-- Texts are equal byte by byte: they have one length, and the same byte at each place.
abbrev pub is_text : List ℕ → List ℕ → Bool
is_text text other = pointwise ◌==◌ text other

-- The first value of that name.
abbrev pub value_of : List ℕ → List (Name × Value) → Option Value
value_of name es = option_map (λ e. e.1) (find (λ e. is_text e.0 name) es)

-- The value is the number one (own, as servers say `ok`): an int32 or int64 of 1 or the double 1.0.
abbrev pub is_one : Value → Bool
is_one (Int32 n) = int_eq n (pos 1)
is_one (Int64 n) = int_eq n (pos 1)
is_one (Double raw) = is_text raw (0 ∷ 0 ∷ 0 ∷ 0 ∷ 0 ∷ 0 ∷ 0xf0 ∷ 0x3f ∷ [])
is_one _ = false
