use Rattle.std.proofs.Common.{pos, true, false, [], ◌∷◌, None, Some, refl, sym, take}
use Rattle.trail_worked.specs.Words.{at, instead, put_in, left_out, an_insert, command_request}
use Rattle.trail_worked.proofs.Rules.{start, look_says, legal, paid, refused}
use Rattle.trail_worked.proofs.Spots.{spot_behind, up}
use Rattle.trail_worked.proofs.Where.{known, bytes_sent, lease_says, draw_says, return_says, clash, clash_bool, is_select, no_primary_kept}
use Rattle.trail_worked.proofs.Bytes.{numbers-apart}
use Rattle.desk_trail.specs.Requests.{IsRequestOf}
use Rattle.write_retry.specs.declared.outcome.Outcome.TheVariants as outcome
use Rattle.desk_trail.specs.declared.entry.LookedHow.TheVariants as looked
use Rattle.desk_trail.specs.Facts as fact
use Rattle.trail_worked.specs.LeasedAgain.{session_id, other_id, numbered_bytes}
use Rattle.trail_worked.specs.Failover.{client_of_set, failover}
use Rattle.trail_worked.proofs.FailoverGood.{good}
use Rattle.trail_worked.proofs.commands.a_failover_with_a_retry.Goals as goal

pub returns-clause-legal : goal.returns-clause-legal
returns-clause-legal c = legal client_of_set failover good

pub returns-clause-complete : goal.returns-clause-complete
returns-clause-complete c = paid client_of_set failover refl

pub returns-clause-a_second_number_for_the_retry : goal.returns-clause-a_second_number_for_the_retry
returns-clause-a_second_number_for_the_retry c = refused client_of_set (put_in failover 32 (at 500400 (fact.Drew 0 (pos 2)))) 32 _ refl (λ s. clash_bool (sym (draw_says _ _ 0 _ (pos 2) s.rule refl).0))

pub returns-clause-another_number_in_the_request_of_the_retry : goal.returns-clause-another_number_in_the_request_of_the_retry
returns-clause-another_number_in_the_request_of_the_retry c = refused client_of_set (instead failover 37 (at 500500 (fact.Asked 6 (command_request 0 4 (pos 7) (numbered_bytes (pos 7) (pos 2)))))) 37 _ refl (λ s. let q : IsRequestOf client_of_set (up (spot_behind client_of_set (start client_of_set) (take 37 failover))).state None 0 (command_request 0 4 (pos 7) (numbered_bytes (pos 7) (pos 2))) = s.rule.is_for in numbers-apart None q.sends.extras.mode None q.sends.extras.read (bytes_sent client_of_set (up (spot_behind client_of_set (start client_of_set) (take 37 failover))).state 0 (command_request 0 4 (pos 7) (numbered_bytes (pos 7) (pos 2))) an_insert (Some session_id) (Some (pos 1)) refl refl refl q))

pub returns-clause-a_second_session_for_the_retry : goal.returns-clause-a_second_session_for_the_retry
returns-clause-a_second_session_for_the_retry c = refused client_of_set (put_in failover 32 (at 500400 (fact.Leased 0 1 other_id true))) 32 _ refl (λ s. lease_says _ _ 0 _ 1 other_id true s.rule refl)

pub returns-clause-answered_without_a_retry : goal.returns-clause-answered_without_a_retry
returns-clause-answered_without_a_retry c = refused client_of_set (instead failover 26 (at 500 (fact.Finished 0 outcome.Network))) 26 _ refl (λ s. clash (known s.rule refl).answers is_select refl refl)

pub returns-clause-a_pool_that_is_not_cleared : goal.returns-clause-a_pool_that_is_not_cleared
returns-clause-a_pool_that_is_not_cleared c = refused client_of_set (left_out failover 23) 23 _ refl (λ s. s.turn)

pub returns-clause-an_error_that_is_not_offered : goal.returns-clause-an_error_that_is_not_offered
returns-clause-an_error_that_is_not_offered c = refused client_of_set (left_out failover 22) 22 _ refl (λ s. s.turn)

pub returns-clause-a_session_given_back_clean : goal.returns-clause-a_session_given_back_clean
returns-clause-a_session_given_back_clean c = refused client_of_set (instead failover 41 (at 500600 (fact.Returned 0 false true))) 41 _ refl (λ s. clash_bool (sym (return_says _ _ 0 _ false true s.rule refl)))

pub returns-clause-a_retry_ahead_of_the_next_primary : goal.returns-clause-a_retry_ahead_of_the_next_primary
returns-clause-a_retry_ahead_of_the_next_primary c = refused client_of_set (instead failover 26 (at 500 (fact.Looked 0 7 8 (0 ∷ []) (looked.Chosen 0)))) 26 _ refl (λ s. no_primary_kept client_of_set (spot_behind client_of_set (start client_of_set) (take 26 failover)).point.state (spot_behind client_of_set (start client_of_set) (take 26 failover)).listed 500 0 7 8 0 (looked.Chosen 0) _ (look_says client_of_set (spot_behind client_of_set (start client_of_set) (take 26 failover)).point.state (spot_behind client_of_set (start client_of_set) (take 26 failover)).listed 500 0 7 8 (0 ∷ []) (looked.Chosen 0) s.rule.1) refl refl refl refl)
