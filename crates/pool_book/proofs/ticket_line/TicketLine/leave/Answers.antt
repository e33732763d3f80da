-- The numbers rise, so the tickets without one are those without the place where it stands.
use Rattle.std.proofs.Common.{◌≡◌, ◌<◌, length, eqb, sym, refl, arith}
use Rattle.std.proofs.lemmas.Option.{slice_get_within}
use Rattle.pool_book.specs.declared.ticket.Ticket.{Ticket}
use Rattle.pool_book.proofs.ListLemmas.{filter-not_found, length-filter_fewer}
use Rattle.pool_book.proofs.TicketLemmas.{ticket_at, ticket_of-absent, without_ticket-place, IsLine-left, OnSome-at}
use Rattle.pool_book.proofs.ticket_line.TicketLine.leave.Goals as goal

pub returns-in_default-clause-items : goal.returns-in_default-clause-items
returns-in_default-clause-items c =
    let absent = ticket_of-absent c.args.number c.self.inside.tickets.items (rw c.self.invariant.same at c.in_default.ensures.none) in
    rw (← c.self.view_is) (sym (filter-not_found (λ (t : Ticket). eqb t.number c.args.number) c.self.inside.tickets.items absent))

pub returns-in_default-clause-fewer : goal.returns-in_default-clause-fewer
returns-in_default-clause-fewer c h =
    let absent = ticket_of-absent c.args.number c.self.inside.tickets.items (rw c.self.invariant.same at c.in_default.ensures.none) in
    let there = rw (← c.self.view_is, absent) at h in absurd (cc)

pub invariant_of-self : goal.invariant_of-self
invariant_of-self c =
    let ticket = ticket_at c.args.number c.in-Some.place c.self.inside.tickets.items (rw c.self.invariant.same at c.in-Some.ensures.some) in
    let within : c.in-Some.place < length c.self.inside.tickets.items = slice_get_within c.self.inside.tickets.items c.in-Some.place ticket.0 ticket.1 in
    let removed = OnSome-at _ _ (c.remove.ensures.variant.1 (omega arith)) c.remove.ensures.items in
    rw (removed, c.leave.ensures.left) (IsLine-left c.args.number c.in-Some.place _ _ _ c.self.invariant c.in-Some.ensures.some)

pub returns-clause-items : goal.returns-clause-items
returns-clause-items c =
    let ticket = ticket_at c.args.number c.in-Some.place c.self.inside.tickets.items (rw c.self.invariant.same at c.in-Some.ensures.some) in
    let within : c.in-Some.place < length c.self.inside.tickets.items = slice_get_within c.self.inside.tickets.items c.in-Some.place ticket.0 ticket.1 in
    let removed = OnSome-at _ _ (c.remove.ensures.variant.1 (omega arith)) c.remove.ensures.items in
    rw (removed, ← c.self.view_is) (sym (without_ticket-place c.args.number c.in-Some.place _ _ _ c.self.invariant c.in-Some.ensures.some))

pub returns-clause-given : goal.returns-clause-given
returns-clause-given c = rw (c.leave.ensures.left, ← c.self.view_is) refl

pub returns-clause-bound : goal.returns-clause-bound
returns-clause-bound c =
    let ticket = ticket_at c.args.number c.in-Some.place c.self.inside.tickets.items (rw c.self.invariant.same at c.in-Some.ensures.some) in
    let within : c.in-Some.place < length c.self.inside.tickets.items = slice_get_within c.self.inside.tickets.items c.in-Some.place ticket.0 ticket.1 in
    let shorter = OnSome-at _ _ (c.remove.ensures.variant.1 (omega arith)) c.remove.ensures.len in
    rw (← c.self.view_is) (omega arith)

pub returns-clause-fewer : goal.returns-clause-fewer
returns-clause-fewer c h =
    rw (returns-clause-items c) (length-filter_fewer (λ (t : Ticket). eqb t.number c.args.number) c.args.self.now.items h)
