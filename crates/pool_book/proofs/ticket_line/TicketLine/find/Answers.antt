-- The ticket stands at the place of its number.
use Rattle.std.proofs.Common.{◌≡◌, None, ◌∙◌, rules}
use Rattle.pool_book.specs.Pool.{ticket_of}
use Rattle.pool_book.proofs.TicketLemmas.{ticket_of-absent, ticket_of-place}
use Rattle.pool_book.proofs.ticket_line.TicketLine.find.Goals as goal

pub returns-in_err-place : goal.returns-in_err-place
returns-in_err-place c =
    let absent : ticket_of c.args.number c.args.self.now.items ≡ None =
    rw (← c.self.view_is) (ticket_of-absent c.args.number c.self.inside.tickets.items (rw c.self.invariant.same at c.in_err-place.ensures.none)) in
    rw absent (search rules)

pub returns : goal.returns
returns c =
    c.at.ensures ∙ rw (← c.self.view_is) (ticket_of-place c.args.number c.in_ok-place.place _ _ _ c.self.invariant c.in_ok-place.ensures.some)
