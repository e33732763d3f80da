-- Where there is no such ticket the filter keeps all.
use Rattle.std.proofs.Common.{◌<◌, ◌^◌, eqb, sym, subst, arith}
use Rattle.pool_book.specs.declared.ticket.Ticket.{Ticket}
use Rattle.pool_book.specs.Inside.{pool_of}
use Rattle.pool_book.proofs.ListLemmas.{filter-not_found}
use Rattle.pool_book.proofs.SoundLemmas.{Sound-left}
use Rattle.pool_book.proofs.book.PoolBook.leave.Goals as goal

pub returns-clause-absent : goal.returns-clause-absent
returns-clause-absent c none =
    let there = rw (← c.self.view_is) at none in
    let kept = filter-not_found (λ (t : Ticket). eqb t.number c.args.ticket.number) c.self.inside.line.items there in
    rw (c.leave.ensures.items, c.leave.ensures.given, kept, c.self.view_is)

pub invariant_of-self : goal.invariant_of-self
invariant_of-self c = record {
  room = record {
    pending = omega (arith, c.self.invariant.room.pending, c.leave.ensures.bound);
    lent = omega (arith, c.self.invariant.room.lent, c.leave.ensures.bound);
    available = omega (arith, c.self.invariant.room.available, c.leave.ensures.bound);
    numbers = omega (arith, c.self.invariant.room.numbers, c.leave.ensures.bound, c.leave.ensures.given);
    counted = subst (λ n. n < 2 ^ 64) (sym c.leave.ensures.given) c.self.invariant.room.counted;
  };
  sound = rw (c.leave.ensures.items, c.leave.ensures.given) (Sound-left (pool_of c.self.inside) c.args.ticket.number c.self.invariant.sound);
}
