-- The first row is a row, and where there is none the connection stands nowhere.
use Rattle.std.proofs.Common.{sym, ◌∙◌}
use Rattle.pool_book.specs.Parts.{is_row_of}
use Rattle.pool_book.proofs.KeptLemmas.{IfSome-when, IfNone-when}
use Rattle.pool_book.proofs.RowLemmas.{found_row, no_row, not_found}
use Rattle.pool_book.proofs.held_list.row_of.Goals as goal

pub returns-in_default-clause-some : goal.returns-in_default-clause-some
returns-in_default-clause-some c =
    IfSome-when c.first_row.result _ (λ i e. found_row c.args.conn c.args.rows.now i (sym c.first_row.ensures ∙ e))

pub returns-in_default-clause-none : goal.returns-in_default-clause-none
returns-in_default-clause-none c =
    IfNone-when c.first_row.result _ (λ e. no_row c.args.conn c.args.rows.now (not_found (is_row_of c.args.conn) c.args.rows.now (sym c.first_row.ensures ∙ e)))
