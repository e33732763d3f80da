use Rattle.std.proofs.Common.{false, Some, refl, sym, eqb}
use Rattle.trail_worked.specs.Words.{at, instead, left_out}
use Rattle.trail_worked.proofs.Rules.{legal, paid, refused}
use Rattle.trail_worked.proofs.Where.{known, known_both, known_first, clash, clash_bool, shuts_as_errored}
use Rattle.pool_book.specs.declared.answers.CloseReason.TheVariants as reason
use Rattle.write_retry.specs.declared.events.Unsent.TheVariants as unsent
use Rattle.desk_trail.specs.Facts as fact
use Rattle.trail_worked.specs.PoolCleared.{client_of_cleared, pool_cleared}
use Rattle.trail_worked.proofs.PoolClearedGood.{good}
use Rattle.trail_worked.proofs.pools.a_pool_is_cleared.Goals as goal

pub returns-clause-legal : goal.returns-clause-legal
returns-clause-legal c = legal client_of_cleared pool_cleared good

pub returns-clause-complete : goal.returns-clause-complete
returns-clause-complete c = paid client_of_cleared pool_cleared refl

pub returns-clause-a_connection_of_the_old_generation_lent : goal.returns-clause-a_connection_of_the_old_generation_lent
returns-clause-a_connection_of_the_old_generation_lent c = refused client_of_cleared (instead pool_cleared 27 (at 10000400 (fact.Settled 1 0 2 false))) 27 _ refl (λ s. clash_bool (sym (known_both (known s.rule refl) refl).1))

pub returns-clause-dialled_while_the_pool_is_paused : goal.returns-clause-dialled_while_the_pool_is_paused
returns-clause-dialled_while_the_pool_is_paused c = refused client_of_cleared (instead pool_cleared 24 (at 10000300 (fact.Dialled 2 0 3 (Some 4)))) 24 _ refl (λ s. clash_bool (sym (known_first (known s.rule.1 refl) refl)))

pub returns-clause-refused_as_late_in_a_cleared_pool : goal.returns-clause-refused_as_late_in_a_cleared_pool
returns-clause-refused_as_late_in_a_cleared_pool c = refused client_of_cleared (instead pool_cleared 24 (at 40000500 (fact.NotLent 2 0 unsent.PoolLate))) 24 _ refl (λ s. clash_bool (known (known s.rule refl) refl).1)

pub returns-clause-refused_with_the_generation_ahead_of_the_clear : goal.returns-clause-refused_with_the_generation_ahead_of_the_clear
returns-clause-refused_with_the_generation_ahead_of_the_clear c = refused client_of_cleared (instead pool_cleared 24 (at 10000300 (fact.NotLent 2 0 (unsent.PoolCleared 0)))) 24 _ refl (λ s. clash (known (known s.rule refl) refl).2 (eqb 0) refl refl)

pub returns-clause-an_attempt_that_does_not_end : goal.returns-clause-an_attempt_that_does_not_end
returns-clause-an_attempt_that_does_not_end c = refused client_of_cleared (left_out pool_cleared 25) 25 _ refl (λ s. s.turn)

pub returns-clause-a_stale_connection_kept_at_check_in : goal.returns-clause-a_stale_connection_kept_at_check_in
returns-clause-a_stale_connection_kept_at_check_in c = refused client_of_cleared (left_out pool_cleared 34) 34 _ refl (λ s. s.turn)

pub returns-clause-a_stale_connection_shut_as_errored : goal.returns-clause-a_stale_connection_shut_as_errored
returns-clause-a_stale_connection_shut_as_errored c = refused client_of_cleared (instead pool_cleared 28 (at 10000400 (fact.ConnShut 0 2 reason.Errored))) 28 _ refl (λ s. clash (known s.rule refl) shuts_as_errored refl refl)

pub returns-clause-a_broken_check_that_clears_nothing : goal.returns-clause-a_broken_check_that_clears_nothing
returns-clause-a_broken_check_that_clears_nothing c = refused client_of_cleared (left_out pool_cleared 23) 23 _ refl (λ s. s.turn)
