use Rattle.std.proofs.Common.{ℕ, ◌+◌, ◌*◌, ◌≤◌, length}
use Rattle.bson_doc.specs.wire.Spelling.{values}
use Rattle.bson_doc.specs.wire.Reading.{document_at, elements_at, unnamed_elements}
use Rattle.bson_wire.proofs.Loop.{GoesOn}
use Rattle.bson_wire.proofs.reading.+reading.Given as goal

abbrev pub decreases-document_of : goal.decreases-document_of
decreases-document_of l = 6 * l.levels

abbrev pub decreases-array_of : goal.decreases-array_of
decreases-array_of l = 6 * l.levels

abbrev pub decreases-scope_of : goal.decreases-scope_of
decreases-scope_of l = 6 * l.levels + 1

abbrev pub decreases-value_of : goal.decreases-value_of
decreases-value_of l = 6 * l.levels + 2

abbrev pub decreases-element_of : goal.decreases-element_of
decreases-element_of l = 6 * l.levels + 3

abbrev pub decreases-item_of : goal.decreases-item_of
decreases-item_of l = 6 * l.levels + 3

abbrev pub decreases-elements_of : goal.decreases-elements_of
decreases-elements_of l = 6 * l.levels + 4

abbrev pub decreases-items_of : goal.decreases-items_of
decreases-items_of l = 6 * l.levels + 4

abbrev pub decreases-body_of : goal.decreases-body_of
decreases-body_of l = 6 * l.levels + 5

abbrev pub decreases-array_body_of : goal.decreases-array_body_of
decreases-array_body_of l = 6 * l.levels + 5

abbrev pub invariant-elements_of-loop-rest : goal.invariant-elements_of-loop-rest
invariant-elements_of-loop-rest l = record {
  within : length l.rest ≤ l.span.end;
  goes_on : (fuel : ℕ) → length l.bytes ≤ fuel → GoesOn (λ es. es) (document_at l.levels) l.span.start l.span.end l.elements l.rest (elements_at (document_at l.levels) fuel l.span.start l.span.end l.bytes);
}

abbrev pub decreases-elements_of-loop-rest : goal.decreases-elements_of-loop-rest
decreases-elements_of-loop-rest l = length l.rest

abbrev pub invariant-items_of-loop-rest : goal.invariant-items_of-loop-rest
invariant-items_of-loop-rest l = record {
  within : length l.rest ≤ l.span.end;
  goes_on : (fuel : ℕ) → length l.bytes ≤ fuel → GoesOn values (document_at l.levels) l.span.start l.span.end l.items l.rest (unnamed_elements (elements_at (document_at l.levels) fuel l.span.start l.span.end l.bytes));
}

abbrev pub decreases-items_of-loop-rest : goal.decreases-items_of-loop-rest
decreases-items_of-loop-rest l = length l.rest
