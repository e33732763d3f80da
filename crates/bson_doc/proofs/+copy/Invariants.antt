use Rattle.std.proofs.Common.{◌≡◌, take}
use Rattle.bson_doc.proofs.+copy.Given as goal

abbrev pub invariant-copy::copy_elements-loop-name : goal.invariant-copy::copy_elements-loop-name
invariant-copy::copy_elements-loop-name l = l.copies ≡ take l.name-index l.elements

abbrev pub invariant-copy::copy_values-loop-value : goal.invariant-copy::copy_values-loop-value
invariant-copy::copy_values-loop-value l = l.copies ≡ take l.value-index l.values
