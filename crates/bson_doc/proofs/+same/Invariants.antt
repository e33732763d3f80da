use Rattle.std.proofs.Common.{◌≡◌, take}
use Rattle.bson_doc.proofs.+same.Given as goal

abbrev pub invariant-same::same_elements-loop-place : goal.invariant-same::same_elements-loop-place
invariant-same::same_elements-loop-place l = take l.place l.elements ≡ take l.place l.others

abbrev pub invariant-same::same_values-loop-place : goal.invariant-same::same_values-loop-place
invariant-same::same_values-loop-place l = take l.place l.values ≡ take l.place l.others
