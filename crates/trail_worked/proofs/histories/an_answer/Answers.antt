use Rattle.std.proofs.Common.{false, ◌++◌}
use Rattle.trail_worked.proofs.HistoryLemmas.{answered-by, not-sent, nothing-came, other-id, other-reading, seen-came, seen-other, seen-sent, seen-twice}
use Rattle.trail_worked.proofs.histories.an_answer.Goals as goal

pub returns : goal.returns
returns c = record {
  whole = λ bytes text m framed to. rw (seen-came bytes text) (answered-by bytes text false false false m framed to);
  in_two_pieces = λ bytes first second m framed to. rw (seen-twice bytes first second) (answered-by bytes (first ++ second) false false false m framed to);
  to_another_request = λ bytes text m r framed other w. other-id bytes text m r framed other (rw (seen-came bytes text) at w);
  of_another_reading = λ bytes text m r framed other w. other-reading bytes text m r framed other (rw (seen-came bytes text) at w);
  that_did_not_come = λ bytes r w. nothing-came bytes r (rw (seen-sent bytes) at w);
  that_came_on_another_stream = λ bytes text r w. nothing-came bytes r (rw (seen-other bytes text) at w);
  to_bytes_that_were_not_sent = λ byte bytes text r w. not-sent byte bytes text r (rw (seen-came bytes text) at w);
}
