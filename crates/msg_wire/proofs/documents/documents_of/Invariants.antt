use Rattle.std.proofs.Common.{ℕ, ◌≤◌, ◌<◌, length}
use Rattle.msg_wire.specs.Sections.{documents_at}
use Rattle.msg_wire.proofs.DocumentLists.{GoesOn}
use Rattle.msg_wire.proofs.documents.documents_of.Given as goal

abbrev pub invariant-loop-rest : goal.invariant-loop-rest
invariant-loop-rest l = record {
  within : length l.rest ≤ l.end;
  goes_on : (fuel : ℕ) → length l.bytes < fuel → GoesOn l.end l.docs l.rest (documents_at fuel l.end l.bytes);
}

abbrev pub decreases-loop-rest : goal.decreases-loop-rest
decreases-loop-rest l = length l.rest
