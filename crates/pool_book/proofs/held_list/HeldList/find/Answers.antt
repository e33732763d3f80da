-- The connection stands in the row that was found.
use Rattle.std.proofs.Common.{sym, ap, subst, ◌∙◌}
use Rattle.pool_book.specs.Parts.{IsRowOf, row_at}
use Rattle.pool_book.proofs.RowLemmas.{row-held}
use Rattle.pool_book.proofs.held_list.HeldList.find.Goals as goal

pub returns : goal.returns
returns c =
    let row = subst (λ rows. IsRowOf c.args.conn rows c.in_ok-row.row) c.as_slice.ensures.value c.in_ok-row.ensures.some in
    let once = rw (← c.self.view_is) at c.requires in
    rw (← c.self.view_is)
    (c.at.ensures ∙ ap (λ rows. row_at rows c.in_ok-row.row) c.as_slice-2.ensures.value ∙ row.1
    ∙ sym (row-held c.args.conn c.self.inside.rows.items c.in_ok-row.row row.0 row.1 row.2 once))
