use Rattle.std.proofs.Common.{[], refl, arith, take}
use Rattle.trail_worked.specs.Words.{at, instead, left_out}
use Rattle.trail_worked.proofs.Rules.{start, look_says, legal, paid, refused}
use Rattle.trail_worked.proofs.Spots.{spot_behind}
use Rattle.trail_worked.proofs.Where.{known, unchecked, clash, is_select, failed_says, none_says}
use Rattle.desk_trail.specs.declared.entry.LookedHow.TheVariants as looked
use Rattle.desk_trail.specs.Facts as fact
use Rattle.trail_worked.specs.NoServer.{client_with_deadline, no_server}
use Rattle.trail_worked.proofs.NoServerGood.{good}
use Rattle.trail_worked.proofs.checks.no_server_at_the_deadline.Goals as goal

pub returns-clause-legal : goal.returns-clause-legal
returns-clause-legal c = legal client_with_deadline no_server good

pub returns-clause-complete : goal.returns-clause-complete
returns-clause-complete c = paid client_with_deadline no_server refl

pub returns-clause-failed_ahead_of_the_deadline : goal.returns-clause-failed_ahead_of_the_deadline
returns-clause-failed_ahead_of_the_deadline c = refused client_with_deadline (instead no_server 4 (at 600099 (fact.Looked 0 7 8 [] looked.Failed))) 4 _ refl (λ s. let d = (failed_says client_with_deadline _ _ 600099 0 7 8 _ (look_says client_with_deadline (spot_behind client_with_deadline (start client_with_deadline) (take 4 no_server)).point.state (spot_behind client_with_deadline (start client_with_deadline) (take 4 no_server)).listed 600099 0 7 8 [] looked.Failed s.rule.1) refl refl).0 in absurd (omega arith))

pub returns-clause-failed_with_a_check_that_was_not_read : goal.returns-clause-failed_with_a_check_that_was_not_read
returns-clause-failed_with_a_check_that_was_not_read c = refused client_with_deadline (left_out no_server 4) 4 _ refl (λ s. unchecked _ _ _ _ 0 _ (omega arith) refl refl ((failed_says client_with_deadline _ _ 600100 0 7 8 _ (look_says client_with_deadline (spot_behind client_with_deadline (start client_with_deadline) (take 4 no_server)).point.state (spot_behind client_with_deadline (start client_with_deadline) (take 4 no_server)).listed 600100 0 7 8 [] looked.Failed s.rule.1) refl refl).1 0 _ refl refl))

pub returns-clause-none_yet_at_the_deadline : goal.returns-clause-none_yet_at_the_deadline
returns-clause-none_yet_at_the_deadline c = refused client_with_deadline (instead no_server 5 (at 600100 (fact.Looked 0 7 8 [] looked.NoneFits))) 5 _ refl (λ s. let d = none_says client_with_deadline _ _ 600100 0 7 8 _ (look_says client_with_deadline (spot_behind client_with_deadline (start client_with_deadline) (take 5 no_server)).point.state (spot_behind client_with_deadline (start client_with_deadline) (take 5 no_server)).listed 600100 0 7 8 [] looked.NoneFits s.rule.1) refl refl in absurd (omega arith))

pub returns-clause-answered_without_a_look : goal.returns-clause-answered_without_a_look
returns-clause-answered_without_a_look c = refused client_with_deadline (left_out no_server 5) 5 _ refl (λ s. clash (known s.rule refl).answers is_select refl refl)
