use Rattle.std.proofs.Common.{◌≡◌, ◌<◌, ◌+◌, ◌-◌, ◌^◌, min, length, drop, map}
use Rattle.bson_doc.specs.wire.Spelled.{payload, numbered, spelled_elements}
use Rattle.bson_wire.proofs.sizes.+size.Given as goal

abbrev pub invariant-size_of_elements-loop-name : goal.invariant-size_of_elements-loop-name
invariant-size_of_elements-loop-name l = record {
  counted : min (l.total + length (spelled_elements (drop l.name-index l.elements))) (2 ^ 64 - 1) ≡ min (length (spelled_elements l.elements)) (2 ^ 64 - 1);
  fits : l.total < 2 ^ 64;
}

abbrev pub invariant-size_of_items-loop-place : goal.invariant-size_of_items-loop-place
invariant-size_of_items-loop-place l = record {
  counted : min (l.total + length (numbered l.place (map payload (drop l.place l.items)))) (2 ^ 64 - 1) ≡ min (length (numbered 0 (map payload l.items))) (2 ^ 64 - 1);
  fits : l.total < 2 ^ 64;
}
