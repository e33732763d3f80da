-- What `retain` keeps is the filter by its closure's test.
use Rattle.std.proofs.Common.{Option, is_some, rules}
use Rattle.std.proofs.lemmas.Fn.{filter_same}
use Rattle.pool_book.specs.declared.connections.Held.{Held}
use Rattle.pool_book.proofs.RowLemmas.{live-some, length-some}
use Rattle.pool_book.proofs.held_list.drop_empty.Goals as goal

pub returns-clause-live : goal.returns-clause-live
returns-clause-live c =
    let kept = filter_same _ (λ (row : Option Held). is_some row) _ (λ x b f' k. search rules) _ _ c.retain.ensures.filtered in
    rw kept (live-some c.args.rows.now.items)

pub returns-clause-full : goal.returns-clause-full
returns-clause-full c =
    let kept = filter_same _ (λ (row : Option Held). is_some row) _ (λ x b f' k. search rules) _ _ c.retain.ensures.filtered in
    rw kept (length-some c.args.rows.now.items)
