use Rattle.std.proofs.Common.{[], refl, arith, take}
use Rattle.trail_worked.specs.Words.{at, instead, left_out}
use Rattle.trail_worked.proofs.Rules.{start, look_says, legal, paid, refused}
use Rattle.trail_worked.proofs.Spots.{spot_behind}
use Rattle.trail_worked.proofs.Where.{known, unchecked_while_due, failed_says}
use Rattle.desk_trail.specs.declared.entry.LookedHow.TheVariants as looked
use Rattle.desk_trail.specs.Facts as fact
use Rattle.trail_worked.specs.NoServer.{client_with_deadline, no_server_behind_a_cut}
use Rattle.trail_worked.proofs.NoServerBehindCutGood.{good}
use Rattle.trail_worked.proofs.checks.no_server_behind_a_check_that_was_cut.Goals as goal

pub returns-clause-legal : goal.returns-clause-legal
returns-clause-legal c = legal client_with_deadline no_server_behind_a_cut good

pub returns-clause-complete : goal.returns-clause-complete
returns-clause-complete c = paid client_with_deadline no_server_behind_a_cut refl

pub returns-clause-failed_while_a_check_is_due : goal.returns-clause-failed_while_a_check_is_due
returns-clause-failed_while_a_check_is_due c = refused client_with_deadline (instead no_server_behind_a_cut 7 (at 600200 (fact.Looked 0 7 8 [] looked.Failed))) 7 _ refl (λ s. unchecked_while_due _ _ _ _ 0 _ (omega arith) refl refl ((failed_says client_with_deadline _ _ 600200 0 7 8 _ (look_says client_with_deadline (spot_behind client_with_deadline (start client_with_deadline) (take 7 no_server_behind_a_cut)).point.state (spot_behind client_with_deadline (start client_with_deadline) (take 7 no_server_behind_a_cut)).listed 600200 0 7 8 [] looked.Failed s.rule.1) refl refl).1 0 _ refl refl))

pub returns-clause-a_check_within_half_a_second : goal.returns-clause-a_check_within_half_a_second
returns-clause-a_check_within_half_a_second c = refused client_with_deadline (instead no_server_behind_a_cut 7 (at 500099 (fact.CheckBegan 0 2))) 7 _ refl (λ s. let d = (known s.rule refl).0.due in absurd (omega arith))

pub returns-clause-a_cut_check_that_clears_nothing : goal.returns-clause-a_cut_check_that_clears_nothing
returns-clause-a_cut_check_that_clears_nothing c = refused client_with_deadline (left_out no_server_behind_a_cut 5) 5 _ refl (λ s. s.turn)
