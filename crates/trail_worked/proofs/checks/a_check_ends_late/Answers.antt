use Rattle.std.proofs.Common.{refl, arith}
use Rattle.trail_worked.specs.Words.{at, instead, left_out}
use Rattle.trail_worked.proofs.Rules.{legal, paid, refused}
use Rattle.trail_worked.proofs.Where.{known, clash_bool, late_says}
use Rattle.desk_trail.specs.declared.entry.CheckHow.TheVariants as check
use Rattle.desk_trail.specs.Facts as fact
use Rattle.trail_worked.specs.OneInsert.{client_of_one}
use Rattle.trail_worked.specs.CheckLate.{check_late}
use Rattle.trail_worked.proofs.CheckLateGood.{good}
use Rattle.trail_worked.proofs.checks.a_check_ends_late.Goals as goal

pub returns-clause-legal : goal.returns-clause-legal
returns-clause-legal c = legal client_of_one check_late good

pub returns-clause-complete : goal.returns-clause-complete
returns-clause-complete c = paid client_of_one check_late refl

pub returns-clause-late_ahead_of_its_time : goal.returns-clause-late_ahead_of_its_time
returns-clause-late_ahead_of_its_time c = refused client_of_one (instead check_late 8 (at 20000099 (fact.CheckEnded 0 check.Late))) 8 _ refl (λ s. let e = late_says client_of_one _ _ 10000100 (known s.rule refl) refl in absurd (omega arith))

pub returns-clause-the_next_one_on_the_stream_that_was_late : goal.returns-clause-the_next_one_on_the_stream_that_was_late
returns-clause-the_next_one_on_the_stream_that_was_late c = refused client_of_one (instead check_late 11 (at 20000100 (fact.CheckBegan 0 1))) 11 _ refl (λ s. clash_bool (known s.rule refl).1)

pub returns-clause-at_once_though_the_server_was_unknown : goal.returns-clause-at_once_though_the_server_was_unknown
returns-clause-at_once_though_the_server_was_unknown c = refused client_of_one (instead check_late 16 (at 30000100 (fact.CheckBegan 0 3))) 16 _ refl (λ s. let d = (known s.rule refl).0.due in absurd (omega arith))

pub returns-clause-a_late_check_that_is_not_offered : goal.returns-clause-a_late_check_that_is_not_offered
returns-clause-a_late_check_that_is_not_offered c = refused client_of_one (left_out check_late 9) 9 _ refl (λ s. s.turn)
