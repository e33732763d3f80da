use Rattle.std.proofs.Common.{refl, sym, is_some}
use Rattle.trail_worked.specs.Words.{at, instead, put_in, left_out}
use Rattle.trail_worked.proofs.Rules.{legal, paid, refused}
use Rattle.trail_worked.proofs.Where.{known, clash, clash_bool, shuts_as_stale}
use Rattle.pool_book.specs.declared.answers.CloseReason.TheVariants as reason
use Rattle.desk_trail.specs.Facts as fact
use Rattle.trail_worked.specs.Failover.{client_of_set}
use Rattle.trail_worked.specs.HostDropped.{host_dropped}
use Rattle.trail_worked.proofs.HostDroppedGood.{good}
use Rattle.trail_worked.proofs.pools.a_host_is_dropped.Goals as goal

pub returns-clause-legal : goal.returns-clause-legal
returns-clause-legal c = legal client_of_set host_dropped good

pub returns-clause-complete : goal.returns-clause-complete
returns-clause-complete c = paid client_of_set host_dropped refl

pub returns-clause-a_host_that_is_not_dropped : goal.returns-clause-a_host_that_is_not_dropped
returns-clause-a_host_that_is_not_dropped c = refused client_of_set (left_out host_dropped 20) 20 _ refl (λ s. s.turn)

pub returns-clause-a_pool_that_is_not_closed : goal.returns-clause-a_pool_that_is_not_closed
returns-clause-a_pool_that_is_not_closed c = refused client_of_set (left_out host_dropped 21) 21 _ refl (λ s. s.turn)

pub returns-clause-its_connection_shut_as_stale : goal.returns-clause-its_connection_shut_as_stale
returns-clause-its_connection_shut_as_stale c = refused client_of_set (instead host_dropped 25 (at 700 (fact.ConnShut 0 1 reason.Stale))) 25 _ refl (λ s. clash (known s.rule refl) shuts_as_stale refl refl)

pub returns-clause-its_connection_kept : goal.returns-clause-its_connection_kept
returns-clause-its_connection_kept c = refused client_of_set (left_out host_dropped 25) 25 _ refl (λ s. s.turn)

pub returns-clause-its_connection_shut_while_lent : goal.returns-clause-its_connection_shut_while_lent
returns-clause-its_connection_shut_while_lent c = refused client_of_set (put_in host_dropped 23 (at 700 (fact.ConnShut 0 1 reason.PoolClosed))) 23 _ refl (λ s. clash (sym (known s.rule refl).2) is_some refl refl)

pub returns-clause-a_check_of_the_host_that_left : goal.returns-clause-a_check_of_the_host_that_left
returns-clause-a_check_of_the_host_that_left c = refused client_of_set (put_in host_dropped 23 (at 20000000 (fact.CheckBegan 0 9))) 23 _ refl (λ s. clash_bool (known s.rule refl).0.stays)
