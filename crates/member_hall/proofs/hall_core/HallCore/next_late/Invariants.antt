use Rattle.std.proofs.Common.{◌≡◌, ◌≤◌, ◌<◌, ℕ, true, false, length, get_or}
use Rattle.member_hall.specs.Halls.{line_at}
use Rattle.member_hall.specs.Inside.{is_late}
use Rattle.member_hall.proofs.hall_core.HallCore.next_late.Given as goal

abbrev pub invariant-loop-stream : goal.invariant-loop-stream
invariant-loop-stream l = record {
  least : l.from ≤ l.next;
  most : l.next ≤ length l.fn.self.lines;
  late : l.next < length l.fn.self.lines → is_late l.fn.self.turn (line_at l.fn.self.lines l.next).late ≡ true;
  none : (k : ℕ) → k < l.stream-index → l.from ≤ get_or l.stream-items k 0 → get_or l.stream-items k 0 < l.next → is_late l.fn.self.turn (line_at l.fn.self.lines (get_or l.stream-items k 0)).late ≡ false;
}
