-- How deep a value lies, by what it is made of.
use Rattle.std.proofs.Common.{◌≡◌, ℕ, ap, ◌∙◌}
use Rattle.bson_doc.specs.Documents.{depth_of, depth_inside, value_step, document_step}
use Rattle.bson_doc.specs.declared.value.Document.{Document}
use Rattle.bson_doc.specs.declared.value.Value.{Value, Value-F, Doc, map-Value, out-Value, fold_out-Value}
use Rattle.bson_doc.specs.declared.value.Value.TheVariants.{outs-Doc}

pub depth_inside-layer : (v : Value) (w : Value-F Value Document) → out-Value v ≡ w → depth_inside v ≡ value_step (map-Value Value Document ℕ ℕ depth_inside depth_of w)
depth_inside-layer v w e =
    fold_out-Value ℕ ℕ value_step document_step v ∙ ap (λ u. value_step (map-Value Value Document ℕ ℕ depth_inside depth_of u)) e

pub depth_inside-Doc : (d : Document) → depth_inside (Doc d) ≡ depth_of d
depth_inside-Doc d = depth_inside-layer _ _ (outs-Doc d)
