use Rattle.std.proofs.Common.{◌≡◌, ◌+◌, ◌≤◌, [], ◌∷◌, ◌++◌, length, drop, map}
use Rattle.std.specs.List.{AllByRecursion}
use Rattle.bson_doc.specs.wire.Spelled.{payload, numbered, spelled_elements}
use Rattle.bson_wire.specs.Written.{ElementSpells, PayloadSpells}
use Rattle.bson_wire.proofs.writing.+writing.Given as goal

abbrev pub invariant-put_document-loop-name : goal.invariant-put_document-loop-name
invariant-put_document-loop-name l = record {
  start : l.start ≡ length l.fn.out.items;
  behind : l.start + 4 ≤ length l.out.items;
  written : l.out.items ++ spelled_elements (drop l.name-index l.name-items) ≡ (l.fn.out.items ++ 0 ∷ 0 ∷ 0 ∷ 0 ∷ []) ++ spelled_elements l.name-items;
  known : AllByRecursion ElementSpells (drop l.name-index l.name-items) → AllByRecursion ElementSpells l.name-items;
}

abbrev pub invariant-put_array-loop-place : goal.invariant-put_array-loop-place
invariant-put_array-loop-place l = record {
  start : l.start ≡ length l.fn.out.items;
  behind : l.start + 4 ≤ length l.out.items;
  written : l.out.items ++ numbered l.place (map payload (drop l.place l.items)) ≡ (l.fn.out.items ++ 0 ∷ 0 ∷ 0 ∷ 0 ∷ []) ++ numbered 0 (map payload l.items);
  known : AllByRecursion PayloadSpells (drop l.place l.items) → AllByRecursion PayloadSpells l.items;
}
