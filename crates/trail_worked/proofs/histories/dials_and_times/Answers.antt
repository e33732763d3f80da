use Rattle.std.proofs.Common.{◌≤◌, arith}
use Rattle.desk_trail.specs.Facts as fact
use Rattle.trail_worked.specs.Histories.{at_once}
use Rattle.trail_worked.proofs.HistoryLemmas.{no-time}
use Rattle.trail_worked.proofs.histories.dials_and_times.Goals as goal

pub returns : goal.returns
returns c = record {
  one_dial_told_twice = λ client w. (let counts : 2 ≤ 1 = w.dials in absurd (omega (arith, counts)));
  a_time_that_came_on_no_message = λ client w. no-time 7 (w.times 0 (at_once (fact.Time 7)) (omega arith));
  a_time_that_came_on_none = λ came. no-time 7 came;
}
