-- The row that was found is made empty.
use Rattle.std.proofs.Common.{◌≡◌, None, eqb, sym, ap, subst, ◌∙◌, arith}
use Rattle.pool_book.specs.declared.connections.Held.{Held}
use Rattle.pool_book.specs.Parts.{IsRowOf, live, row_at}
use Rattle.pool_book.specs.Pool.{held_of}
use Rattle.pool_book.proofs.ListLemmas.{OnSome-from, filter-not_found}
use Rattle.pool_book.proofs.RowLemmas.{row-within, row-held, row-taken, length-taken}
use Rattle.pool_book.proofs.held_list.empty_row.Goals as goal

pub returns-in_err-row-clause-live : goal.returns-in_err-row-clause-live
returns-in_err-row-clause-live c =
    let none = subst (λ rows. held_of c.args.conn (live rows) ≡ None) c.as_slice.ensures.value c.in_err-row.ensures.none in
    sym (filter-not_found (λ (h : Held). eqb h.conn c.args.conn) (live c.args.rows.now.items) none)

pub index_mut-requires : goal.index_mut-requires
index_mut-requires c =
    let row = c.in_ok-row.ensures.some in
    omega (arith, row-within c.as_slice.result.now c.in_ok-row.row row.0 row.1, c.as_slice.ensures.len)

pub returns-clause-found : goal.returns-clause-found
returns-clause-found c =
    let row = subst (λ rows. IsRowOf c.args.conn rows c.in_ok-row.row) c.as_slice.ensures.value c.in_ok-row.ensures.some in
    c.at-held.ensures ∙ ap (λ rows. row_at rows c.in_ok-row.row) c.as_slice-2.ensures.value ∙ row.1
    ∙ sym (row-held c.args.conn c.args.rows.now.items c.in_ok-row.row row.0 row.1 row.2 c.requires)

pub returns-clause-live : goal.returns-clause-live
returns-clause-live c =
    let row = subst (λ rows. IsRowOf c.args.conn rows c.in_ok-row.row) c.as_slice.ensures.value c.in_ok-row.ensures.some in
    row-taken c.args.conn c.args.rows.now.items c.in_ok-row.row row.0 row.1 row.2 c.requires

pub returns-clause-fewer : goal.returns-clause-fewer
returns-clause-fewer c =
    let row = subst (λ rows. IsRowOf c.args.conn rows c.in_ok-row.row) c.as_slice.ensures.value c.in_ok-row.ensures.some in
    OnSome-from c.at-held.result _ (λ _. length-taken c.args.rows.now.items c.in_ok-row.row row.0 row.1)
