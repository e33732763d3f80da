use Rattle.std.proofs.Common.{◌≡◌, ◌-◌, ◌^◌, min, max, drop}
use Rattle.bson_doc.specs.Documents.{greatest, depth_inside}
use Rattle.bson_doc.proofs.+depth.Given as goal

abbrev pub invariant-depth::depth_of_elements-loop-value : goal.invariant-depth::depth_of_elements-loop-value
invariant-depth::depth_of_elements-loop-value l =
    min (max l.most (greatest (λ e. depth_inside e.1) (drop l.value-index l.elements))) (2 ^ 32 - 1)
    ≡ min (greatest (λ e. depth_inside e.1) l.elements) (2 ^ 32 - 1)

abbrev pub invariant-depth::depth_of_items-loop-value : goal.invariant-depth::depth_of_items-loop-value
invariant-depth::depth_of_items-loop-value l =
    min (max l.most (greatest depth_inside (drop l.value-index l.items))) (2 ^ 32 - 1)
    ≡ min (greatest depth_inside l.items) (2 ^ 32 - 1)
