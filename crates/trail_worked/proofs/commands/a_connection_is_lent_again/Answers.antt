use Rattle.std.proofs.Common.{pos, Some, refl, sym, is_some}
use Rattle.trail_worked.specs.Words.{at, instead, put_in, left_out, command_request}
use Rattle.trail_worked.proofs.Rules.{legal, paid, refused}
use Rattle.trail_worked.proofs.Where.{known, known_both, clash, clash_bool}
use Rattle.desk_trail.specs.Facts as fact
use Rattle.trail_worked.specs.OneInsert.{insert_bytes}
use Rattle.trail_worked.specs.LentAgain.{client_of_three, lent_again}
use Rattle.trail_worked.proofs.LentAgainGood.{good}
use Rattle.trail_worked.proofs.commands.a_connection_is_lent_again.Goals as goal

pub returns-clause-legal : goal.returns-clause-legal
returns-clause-legal c = legal client_of_three lent_again good

pub returns-clause-complete : goal.returns-clause-complete
returns-clause-complete c = paid client_of_three lent_again refl

pub returns-clause-lent_to_the_second_in_line : goal.returns-clause-lent_to_the_second_in_line
returns-clause-lent_to_the_second_in_line c = refused client_of_three (instead lent_again 20 (at 410 (fact.Lent 2 0 1))) 20 _ refl (λ s. clash_bool (sym (known_both (known s.rule refl) refl).0))

pub returns-clause-lent_while_another_has_it : goal.returns-clause-lent_while_another_has_it
returns-clause-lent_while_another_has_it c = refused client_of_three (instead lent_again 17 (at 400 (fact.Lent 1 0 1))) 17 _ refl (λ s. clash (sym (known s.rule refl).3) is_some refl refl)

pub returns-clause-one_more_connection_than_the_pool_may_have : goal.returns-clause-one_more_connection_than_the_pool_may_have
returns-clause-one_more_connection_than_the_pool_may_have c = refused client_of_three (put_in lent_again 14 (at 300 (fact.Dialled 1 0 2 (Some 3)))) 14 _ refl (λ s. clash_bool (sym (known s.rule.1 refl).4))

pub returns-clause-sent_while_it_waits : goal.returns-clause-sent_while_it_waits
returns-clause-sent_while_it_waits c = refused client_of_three (instead lent_again 20 (at 410 (fact.Asked 3 (command_request 1 2 (pos 4) (insert_bytes (pos 4)))))) 20 _ refl (λ s. clash_bool (sym (known s.command refl)))

pub returns-clause-answered_ahead_of_the_check_in : goal.returns-clause-answered_ahead_of_the_check_in
returns-clause-answered_ahead_of_the_check_in c = refused client_of_three (left_out lent_again 18) 18 _ refl (λ s. s.turn)
