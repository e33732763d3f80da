use Rattle.std.proofs.Common.{pos, [], ◌∷◌, refl}
use Rattle.trail_worked.specs.Words.{at, instead, put_in, command_request, farewell}
use Rattle.trail_worked.proofs.Rules.{legal, paid, refused}
use Rattle.trail_worked.proofs.Where.{known, clash, clash_bool, shuts_as_stale}
use Rattle.trail_worked.proofs.Farewells.{no_connection_for, perished_for, is_command}
use Rattle.pool_book.specs.declared.answers.CloseReason.TheVariants as reason
use Rattle.desk_trail.specs.declared.entry.LookedHow.TheVariants as looked
use Rattle.desk_trail.specs.Facts as fact
use Rattle.trail_worked.specs.LeasedAgain.{session_id, numbered_bytes}
use Rattle.trail_worked.specs.ClientEnds.{client_of_router, client_ends}
use Rattle.trail_worked.proofs.ClientEndsGood.{good}
use Rattle.trail_worked.proofs.ending.a_client_ends.Goals as goal

pub returns-clause-legal : goal.returns-clause-legal
returns-clause-legal c = legal client_of_router client_ends good

pub returns-clause-complete : goal.returns-clause-complete
returns-clause-complete c = paid client_of_router client_ends refl

pub returns-clause-a_look_behind_the_farewell : goal.returns-clause-a_look_behind_the_farewell
returns-clause-a_look_behind_the_farewell c = refused client_of_router (put_in client_ends 20 (at 500 (fact.Looked 0 7 8 (0 ∷ []) (looked.Chosen 0)))) 20 _ refl (λ s. s.going)

pub returns-clause-a_command_behind_the_farewell : goal.returns-clause-a_command_behind_the_farewell
returns-clause-a_command_behind_the_farewell c = refused client_of_router (put_in client_ends 20 (at 500 (fact.Asked 4 (command_request 0 2 (pos 5) (numbered_bytes (pos 5) (pos 2)))))) 20 _ refl (λ s. clash s.going is_command refl refl)

pub returns-clause-a_second_farewell_on_the_connection : goal.returns-clause-a_second_farewell_on_the_connection
returns-clause-a_second_farewell_on_the_connection c = refused client_of_router (put_in client_ends 20 (at 500 (fact.Asked 4 (farewell 2 (pos 5) (session_id ∷ []))))) 20 _ refl (λ s. clash_bool s.rule.is_for.unused)

pub returns-clause-a_farewell_on_a_connection_that_is_lent : goal.returns-clause-a_farewell_on_a_connection_that_is_lent
returns-clause-a_farewell_on_a_connection_that_is_lent c = refused client_of_router (put_in client_ends 15 (at 350 (fact.Asked 3 (farewell 2 (pos 4) (session_id ∷ []))))) 15 _ refl (λ s. no_connection_for _ _ _ _ refl refl s.rule.is_for)

pub returns-clause-a_farewell_on_a_connection_that_was_idle_too_long : goal.returns-clause-a_farewell_on_a_connection_that_was_idle_too_long
returns-clause-a_farewell_on_a_connection_that_was_idle_too_long c = refused client_of_router (instead client_ends 19 (at 1401 (fact.Asked 3 (farewell 2 (pos 4) (session_id ∷ []))))) 19 _ refl (λ s. perished_for _ _ _ _ _ refl refl refl s.rule.is_for)

pub returns-clause-its_connection_shut_as_stale : goal.returns-clause-its_connection_shut_as_stale
returns-clause-its_connection_shut_as_stale c = refused client_of_router (instead client_ends 21 (at 500 (fact.ConnShut 0 1 reason.Stale))) 21 _ refl (λ s. clash (known s.rule refl) shuts_as_stale refl refl)

pub returns-clause-a_pool_closed_twice : goal.returns-clause-a_pool_closed_twice
returns-clause-a_pool_closed_twice c = refused client_of_router (instead client_ends 21 (at 500 (fact.PoolShut 0))) 21 _ refl (λ s. s.turn)
