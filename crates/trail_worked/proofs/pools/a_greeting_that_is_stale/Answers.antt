use Rattle.std.proofs.Common.{false, refl, sym}
use Rattle.trail_worked.specs.Words.{at, instead, left_out}
use Rattle.trail_worked.proofs.Rules.{legal, paid, refused}
use Rattle.trail_worked.proofs.Where.{known, known_both, clash, clash_bool, shuts, clears_to}
use Rattle.write_retry.specs.declared.events.Unsent.TheVariants as unsent
use Rattle.desk_trail.specs.Facts as fact
use Rattle.trail_worked.specs.OneInsert.{client_of_one}
use Rattle.trail_worked.specs.StaleGreeting.{stale_greeting}
use Rattle.trail_worked.proofs.StaleGreetingGood.{good}
use Rattle.trail_worked.proofs.pools.a_greeting_that_is_stale.Goals as goal

pub returns-clause-legal : goal.returns-clause-legal
returns-clause-legal c = legal client_of_one stale_greeting good

pub returns-clause-complete : goal.returns-clause-complete
returns-clause-complete c = paid client_of_one stale_greeting refl

pub returns-clause-lent_in_the_next_generation : goal.returns-clause-lent_in_the_next_generation
returns-clause-lent_in_the_next_generation c = refused client_of_one (instead stale_greeting 20 (at 10000400 (fact.Settled 0 0 1 false))) 20 _ refl (λ s. clash_bool (sym (known_both (known s.rule refl) refl).1))

pub returns-clause-not_shut : goal.returns-clause-not_shut
returns-clause-not_shut c = refused client_of_one (left_out stale_greeting 21) 21 _ refl (λ s. clash (sym (known s.rule refl)) shuts refl refl)

pub returns-clause-refused_with_the_old_generation : goal.returns-clause-refused_with_the_old_generation
returns-clause-refused_with_the_old_generation c = refused client_of_one (instead stale_greeting 22 (at 10000400 (fact.NotLent 0 0 (unsent.PoolCleared 0)))) 22 _ refl (λ s. clash (known s.rule refl) (clears_to 0) refl refl)

pub returns-clause-its_attempt_does_not_end : goal.returns-clause-its_attempt_does_not_end
returns-clause-its_attempt_does_not_end c = refused client_of_one (left_out stale_greeting 23) 23 _ refl (λ s. s.turn)

pub returns-clause-the_next_check_on_the_stream_that_ended : goal.returns-clause-the_next_check_on_the_stream_that_ended
returns-clause-the_next_check_on_the_stream_that_ended c = refused client_of_one (instead stale_greeting 15 (at 10000200 (fact.CheckBegan 0 1))) 15 _ refl (λ s. clash_bool (known s.rule refl).1)

pub returns-clause-a_pool_that_stays_paused : goal.returns-clause-a_pool_that_stays_paused
returns-clause-a_pool_that_stays_paused c = refused client_of_one (left_out stale_greeting 19) 19 _ refl (λ s. s.turn)
