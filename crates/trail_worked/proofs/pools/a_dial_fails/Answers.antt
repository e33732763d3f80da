use Rattle.std.proofs.Common.{Some, refl, take}
use Rattle.trail_worked.specs.Words.{at, instead, left_out}
use Rattle.trail_worked.proofs.Rules.{start, offer_says, legal, paid, refused}
use Rattle.trail_worked.proofs.Spots.{spot_behind}
use Rattle.trail_worked.proofs.Where.{known, clash, answers_network}
use Rattle.topo_rules.specs.declared.event.TopoEvent.TheVariants as event
use Rattle.write_retry.specs.declared.outcome.Outcome.TheVariants as outcome
use Rattle.desk_trail.specs.declared.entry.OfferedHow.TheVariants as offered
use Rattle.desk_trail.specs.Facts as fact
use Rattle.trail_worked.specs.OneInsert.{alone, client_of_one}
use Rattle.trail_worked.specs.DialFailed.{dial_failed}
use Rattle.trail_worked.proofs.DialFailedGood.{good}
use Rattle.trail_worked.proofs.pools.a_dial_fails.Goals as goal

pub returns-clause-legal : goal.returns-clause-legal
returns-clause-legal c = legal client_of_one dial_failed good

pub returns-clause-complete : goal.returns-clause-complete
returns-clause-complete c = paid client_of_one dial_failed refl

pub returns-clause-an_attempt_that_does_not_end : goal.returns-clause-an_attempt_that_does_not_end
returns-clause-an_attempt_that_does_not_end c = refused client_of_one (left_out dial_failed 10) 10 _ refl (λ s. s.turn)

pub returns-clause-an_error_that_is_not_offered : goal.returns-clause-an_error_that_is_not_offered
returns-clause-an_error_that_is_not_offered c = refused client_of_one (left_out dial_failed 12) 12 _ refl (λ s. s.turn)

pub returns-clause-offered_as_stale : goal.returns-clause-offered_as_stale
returns-clause-offered_as_stale c = refused client_of_one (instead dial_failed 12 (at 200 (fact.Offered 1 (event.Broken alone (Some 0)) offered.StaleGeneration))) 12 _ refl (λ s. offer_says (spot_behind client_of_one (start client_of_one) (take 12 dial_failed)).point.state (spot_behind client_of_one (start client_of_one) (take 12 dial_failed)).listed 1 (event.Broken alone (Some 0)) offered.StaleGeneration s.rule)

pub returns-clause-dialled_again_without_a_ticket : goal.returns-clause-dialled_again_without_a_ticket
returns-clause-dialled_again_without_a_ticket c = refused client_of_one (instead dial_failed 14 (at 200 (fact.Dialled 0 0 2 (Some 3)))) 14 _ refl (λ s. s.rule.1)

pub returns-clause-answered_as_cleared : goal.returns-clause-answered_as_cleared
returns-clause-answered_as_cleared c = refused client_of_one (instead dial_failed 14 (at 200 (fact.Finished 0 (outcome.PoolCleared 1)))) 14 _ refl (λ s. clash (known s.rule refl).answers answers_network refl refl)
