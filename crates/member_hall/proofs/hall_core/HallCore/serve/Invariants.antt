use Rattle.std.proofs.Common.{◌≡◌}
use Rattle.member_hall.specs.Playing.{Plays}
use Rattle.member_hall.specs.Turns.{rest_length, served}
use Rattle.member_hall.proofs.hall_core.HallCore.serve.Given as goal

abbrev pub invariant-serving : goal.invariant-serving
invariant-serving l = record {
  served : served l.stream l.self ≡ served l.stream l.fn.self;
  plays : Plays l.fn.self l.self;
}

abbrev pub decreases-serving : goal.decreases-serving
decreases-serving l = rest_length l.self l.stream
