use Rattle.std.proofs.Common.{pos, true, [], ◌∷◌, refl, sym, is_some}
use Rattle.trail_worked.specs.Words.{at, instead, left_out, command_request}
use Rattle.trail_worked.proofs.Rules.{legal, paid, refused}
use Rattle.trail_worked.proofs.Where.{known, fits_first, clash, clash_bool, is_select}
use Rattle.desk_trail.specs.declared.entry.LookedHow.TheVariants as looked
use Rattle.desk_trail.specs.Facts as fact
use Rattle.trail_worked.specs.OneInsert.{client_of_one, insert_bytes}
use Rattle.trail_worked.specs.TooLarge.{too_large}
use Rattle.trail_worked.proofs.TooLargeGood.{good}
use Rattle.trail_worked.proofs.commands.a_command_is_too_large.Goals as goal

pub returns-clause-legal : goal.returns-clause-legal
returns-clause-legal c = legal client_of_one too_large good

pub returns-clause-complete : goal.returns-clause-complete
returns-clause-complete c = paid client_of_one too_large refl

pub returns-clause-sent_all_the_same : goal.returns-clause-sent_all_the_same
returns-clause-sent_all_the_same c = refused client_of_one (instead too_large 12 (at 300 (fact.Asked 2 (command_request 0 2 (pos 3) (insert_bytes (pos 3)))))) 12 _ refl (λ s. let f = fits_first client_of_one _ _ 0 _ _ _ _ refl refl refl s.rule.is_for in clash f.1 is_some refl refl)

pub returns-clause-its_connection_as_errored : goal.returns-clause-its_connection_as_errored
returns-clause-its_connection_as_errored c = refused client_of_one (instead too_large 13 (at 300 (fact.CheckedIn 0 0 1 true))) 13 _ refl (λ s. clash_bool s.turn.1)

pub returns-clause-tried_again : goal.returns-clause-tried_again
returns-clause-tried_again c = refused client_of_one (instead too_large 14 (at 300 (fact.Looked 0 7 8 (0 ∷ []) (looked.Chosen 0)))) 14 _ refl (λ s. clash (sym (known s.rule.0 refl)) is_select refl refl)

pub returns-clause-its_connection_not_given_back : goal.returns-clause-its_connection_not_given_back
returns-clause-its_connection_not_given_back c = refused client_of_one (left_out too_large 13) 13 _ refl (λ s. s.turn)
