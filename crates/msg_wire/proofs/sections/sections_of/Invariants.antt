use Rattle.std.proofs.Common.{ℕ, ◌≤◌, ◌<◌, length, None}
use Rattle.msg_wire.specs.Sections.{sections_at}
use Rattle.msg_wire.proofs.SectionLoop.{GoesOn}
use Rattle.msg_wire.proofs.sections.sections_of.Given as goal

abbrev pub invariant-loop-rest : goal.invariant-loop-rest
invariant-loop-rest l = record {
  within : length l.rest ≤ l.end;
  goes_on : (fuel : ℕ) → length l.bytes < fuel → GoesOn l.spare l.end l.body l.sequences l.rest (sections_at fuel l.spare l.end None l.bytes);
}

abbrev pub decreases-loop-rest : goal.decreases-loop-rest
decreases-loop-rest l = length l.rest
