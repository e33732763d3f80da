-- The next ticket stands last, at the place of its number.
use Rattle.pool_book.proofs.TicketLemmas.{IsLine-push}
use Rattle.pool_book.proofs.ticket_line.TicketLine.enter.Goals as goal

pub invariant_of-self-2 : goal.invariant_of-self-2
invariant_of-self-2 c =
    rw (c.in_ok-number.ensures.ok, c.push_back_reserved.ensures.items, c.in_ok-reserve.ensures.items) (IsLine-push _ _ _ _ c.self.invariant c.in_ok-number.ensures.number)
