-- How the depth of a document comes from those of its values, and an array's from those of its items.
use Rattle.std.proofs.Common.{◌≡◌, ℕ, ◌+◌, max, List, [], ◌∷◌, map, refl, ap, ◌∙◌}
use Rattle.bson_doc.specs.Documents.{greatest, depth_of, depth_inside, value_step, document_step}
use Rattle.bson_doc.specs.declared.value.Document.{Document, fold_out-Document}
use Rattle.bson_doc.specs.declared.value.Value.{Value, Array, map-Value, fold_out-Value}
use Rattle.bson_doc.specs.declared.value.Value.TheVariants.{outs-Array}

pub greatest-map : {X Y : Type 0} (f : Y → ℕ) (g : X → Y) (xs : List X) → greatest f (map g xs) ≡ greatest (λ x. f (g x)) xs
greatest-map f g [] = refl
greatest-map f g (x ∷ xs) = ap (λ n. max (f (g x)) n) (greatest-map f g xs)

pub depth_of-elements : (d : Document) → depth_of d ≡ 1 + greatest (λ e. depth_inside e.1) d.elements
depth_of-elements d = fold_out-Document ℕ ℕ value_step document_step d ∙ ap (λ n. 1 + n) (greatest-map (λ e. e.1) _ d.elements)

pub depth_inside-Array : (items : List Value) → depth_inside (Array items) ≡ 1 + greatest depth_inside items
depth_inside-Array items =
    let folded = fold_out-Value ℕ ℕ value_step document_step (Array items) in
    folded ∙ ap (λ w. value_step (map-Value Value Document ℕ ℕ depth_inside depth_of w)) (outs-Array items)
    ∙ ap (λ n. 1 + n) (greatest-map (λ d. d) depth_inside items)
