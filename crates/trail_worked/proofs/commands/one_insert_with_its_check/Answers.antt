use Rattle.std.proofs.Common.{pos, true, false, refl}
use Rattle.trail_worked.specs.Words.{at, instead, put_in, left_out, command_request}
use Rattle.trail_worked.proofs.Rules.{legal, paid, refused}
use Rattle.trail_worked.proofs.Where.{known, stream_sent}
use Rattle.trail_worked.proofs.Bytes.{insert-literal}
use Rattle.topo_rules.specs.declared.event.TopoEvent.TheVariants as event
use Rattle.write_retry.specs.declared.outcome.Outcome.TheVariants as outcome
use Rattle.desk_trail.specs.declared.entry.OfferedHow.TheVariants as offered
use Rattle.desk_trail.specs.Facts as fact
use Rattle.trail_worked.specs.OneInsert.{client_of_one, standalone, insert_bytes, one_insert}
use Rattle.trail_worked.proofs.OneInsertGood.{good}
use Rattle.trail_worked.proofs.commands.one_insert_with_its_check.Goals as goal

pub returns-clause-legal : goal.returns-clause-legal
returns-clause-legal c = legal client_of_one one_insert good

pub returns-clause-complete : goal.returns-clause-complete
returns-clause-complete c = paid client_of_one one_insert refl

pub returns-clause-step_by_step : goal.returns-clause-step_by_step
returns-clause-step_by_step c = record { placed = refl; legal = legal client_of_one one_insert good }

pub returns-clause-its_bytes : goal.returns-clause-its_bytes
returns-clause-its_bytes c = insert-literal

pub returns-clause-none_left : goal.returns-clause-none_left
returns-clause-none_left c = record { paid = paid client_of_one one_insert refl }

pub returns-clause-a_second_check_while_one_runs : goal.returns-clause-a_second_check_while_one_runs
returns-clause-a_second_check_while_one_runs c = refused client_of_one (put_in one_insert 3 (at 50 (fact.CheckBegan 0 3))) 3 _ refl (λ s. let due = (known s.rule refl).0 in absurd (let r = due.rests in cc))

pub returns-clause-an_event_offered_twice : goal.returns-clause-an_event_offered_twice
returns-clause-an_event_offered_twice c = refused client_of_one (put_in one_insert 6 (at 100 (fact.Offered 1 (event.Reply standalone 100) (offered.Accepted false)))) 6 _ refl (λ s. s.turn)

pub returns-clause-a_pool_that_is_not_made_ready : goal.returns-clause-a_pool_that_is_not_made_ready
returns-clause-a_pool_that_is_not_made_ready c = refused client_of_one (left_out one_insert 5) 5 _ refl (λ s. s.turn)

pub returns-clause-lent_ahead_of_the_greeting : goal.returns-clause-lent_ahead_of_the_greeting
returns-clause-lent_ahead_of_the_greeting c = refused client_of_one (instead one_insert 10 (at 300 (fact.Lent 0 0 1))) 10 _ refl (λ s. let e = (known s.rule refl).1 in absurd (cc))

pub returns-clause-sent_on_the_stream_of_the_check : goal.returns-clause-sent_on_the_stream_of_the_check
returns-clause-sent_on_the_stream_of_the_check c = refused client_of_one (instead one_insert 12 (at 300 (fact.Asked 2 (command_request 0 1 (pos 3) (insert_bytes (pos 3)))))) 12 _ refl (λ s. let e = stream_sent client_of_one _ _ 0 _ _ 0 0 1 _ refl refl refl s.rule.is_for in absurd (cc))

pub returns-clause-checked_in_as_errored : goal.returns-clause-checked_in_as_errored
returns-clause-checked_in_as_errored c = refused client_of_one (instead one_insert 14 (at 400 (fact.CheckedIn 0 0 1 true))) 14 _ refl (λ s. let e = s.turn.1 in absurd (cc))

pub returns-clause-finished_with_another_outcome : goal.returns-clause-finished_with_another_outcome
returns-clause-finished_with_another_outcome c = refused client_of_one (instead one_insert 15 (at 400 (fact.Finished 0 (outcome.Ok (pos 0) (pos 0))))) 15 _ refl (λ s. let e = (known s.rule refl).answers in absurd (cc))
