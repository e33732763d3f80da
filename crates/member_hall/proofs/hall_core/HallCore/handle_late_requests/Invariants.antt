use Rattle.std.proofs.Common.{◌≡◌, ◌≤◌, ◌<◌, ◌-◌, true, length}
use Rattle.member_hall.specs.Halls.{line_at}
use Rattle.member_hall.specs.Inside.{is_late}
use Rattle.member_hall.specs.Playing.{Plays}
use Rattle.member_hall.specs.Turns.{late_among}
use Rattle.member_hall.proofs.hall_core.HallCore.handle_late_requests.Given as goal

abbrev pub invariant-handling : goal.invariant-handling
invariant-handling l = record {
  so_far : l.self ≡ late_among l.stream l.fn.self;
  plays : Plays l.fn.self l.self;
  many : length l.self.lines ≡ length l.fn.self.lines;
  within : l.stream ≤ length l.self.lines;
  late : l.stream < length l.self.lines → is_late l.self.turn (line_at l.self.lines l.stream).late ≡ true;
}

abbrev pub decreases-handling : goal.decreases-handling
decreases-handling l = length l.self.lines - l.stream
