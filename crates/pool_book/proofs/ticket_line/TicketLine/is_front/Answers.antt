-- A line with a first has one at least.
use Rattle.std.proofs.Common.{sym, ◌∙◌}
use Rattle.pool_book.proofs.ListLemmas.{is_first-length}
use Rattle.pool_book.proofs.ticket_line.TicketLine.is_front.Goals as goal

pub returns-clause-there : goal.returns-clause-there
returns-clause-there c first =
    let front = rw c.self.invariant.same at (sym c.is_front.ensures ∙ first) in
    rw (← c.self.view_is) (is_first-length c.self.inside.tickets.items c.args.number front)
