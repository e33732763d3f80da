use Rattle.std.proofs.Common.{◌≡◌, inl, true, false, [], refl}
use Rattle.desk_trail.specs.Streams as told
use Rattle.trail_worked.proofs.HistoryLemmas.{all-sent, answered-late, front-nil, nothing-bad, seen-behind, seen-came, seen-cut, seen-dry, seen-ended, seen-failed, seen-full, unanswered-by, view}
use Rattle.trail_worked.proofs.histories.no_answer.Goals as goal

pub returns : goal.returns
returns c = record {
  cut = λ bytes. rw (seen-ended bytes) (all-sent (view bytes [] true false false) bytes told.Cut refl (front-nil, refl));
  cut_in_a_message = λ bytes text front. rw (seen-cut bytes text) (all-sent (view bytes text true false false) bytes told.Cut refl (front, refl));
  failed = λ bytes. rw (seen-failed bytes) (all-sent (view bytes [] false true false) bytes told.Fault refl (front-nil, refl));
  late = λ bytes. rw (seen-dry bytes) (all-sent (view bytes [] false false true) bytes told.Late refl (front-nil, refl));
  late_while_it_is_sent = λ first second. rw (seen-full first) (unanswered-by (view first [] false false true) first second told.Late refl (front-nil, refl));
  no_message = λ bytes text at faulty. rw (seen-came bytes text) (all-sent (view bytes text false false false) bytes (told.Bad at) refl (inl faulty));
  cut_though_none_ended_it = λ bytes w. (let clash : false ≡ true = (rw (seen-failed bytes) at w).explained.1 in cc);
  failed_though_none_failed = λ bytes w. (let clash : false ≡ true = (rw (seen-ended bytes) at w).explained.1 in cc);
  late_though_bytes_came_last = λ bytes text w. (let clash : false ≡ true = (rw (seen-came bytes text) at w).explained.1 in cc);
  late_though_it_was_answered = λ bytes text m framed w. answered-late bytes text m framed (rw (seen-behind bytes text) at w);
  no_message_where_nothing_came = λ bytes at w. nothing-bad bytes at (rw (seen-ended bytes) at w);
}
