use Rattle.std.proofs.Common.{pos, true, false, refl, arith}
use Rattle.trail_worked.specs.Words.{at, instead, left_out}
use Rattle.trail_worked.proofs.Rules.{legal, paid, refused}
use Rattle.trail_worked.proofs.Where.{known, known_both, lease_says, draw_says, return_says, clash, clash_bool}
use Rattle.std.specs.Ordering.{int_eq}
use Rattle.desk_trail.specs.Facts as fact
use Rattle.trail_worked.specs.LeasedAgain.{client_of_two, other_id, leased_again}
use Rattle.trail_worked.proofs.LeasedAgainGood.{good}
use Rattle.trail_worked.proofs.commands.a_session_is_leased_again.Goals as goal

pub returns-clause-legal : goal.returns-clause-legal
returns-clause-legal c = legal client_of_two leased_again good

pub returns-clause-complete : goal.returns-clause-complete
returns-clause-complete c = paid client_of_two leased_again refl

pub returns-clause-the_same_number_again : goal.returns-clause-the_same_number_again
returns-clause-the_same_number_again c = refused client_of_two (instead leased_again 21 (at 500 (fact.Drew 1 (pos 1)))) 21 _ refl (λ s. clash (known_both (draw_says _ _ 1 _ (pos 1) s.rule refl).1 refl).1 (int_eq (pos 1)) refl refl)

pub returns-clause-a_new_session_though_one_waits : goal.returns-clause-a_new_session_though_one_waits
returns-clause-a_new_session_though_one_waits c = refused client_of_two (instead leased_again 20 (at 500 (fact.Leased 1 1 other_id true))) 20 _ refl (λ s. clash_bool ((lease_says _ _ 1 _ 1 other_id true s.rule refl).3 0 (record { place = 0; last_use = 0 }) (omega arith)))

pub returns-clause-a_number_without_a_session : goal.returns-clause-a_number_without_a_session
returns-clause-a_number_without_a_session c = refused client_of_two (left_out leased_again 20) 20 _ refl (λ s. (draw_says _ _ 1 _ (pos 2) s.rule refl).1)

pub returns-clause-a_connection_without_a_number : goal.returns-clause-a_connection_without_a_number
returns-clause-a_connection_without_a_number c = refused client_of_two (left_out leased_again 21) 21 _ refl (λ s. clash_bool (known s.rule.0 refl).equipped.number)

pub returns-clause-given_back_as_dirty : goal.returns-clause-given_back_as_dirty
returns-clause-given_back_as_dirty c = refused client_of_two (instead leased_again 18 (at 400 (fact.Returned 0 true false))) 18 _ refl (λ s. clash_bool (return_says _ _ 0 _ true false s.rule refl))

pub returns-clause-not_given_back : goal.returns-clause-not_given_back
returns-clause-not_given_back c = refused client_of_two (left_out leased_again 18) 18 _ refl (λ s. s.turn)
