-- The ticket leaves the line.
use Rattle.std.proofs.Common.{◌<◌, ◌^◌, sym, subst, arith}
use Rattle.pool_book.specs.Inside.{pool_of}
use Rattle.pool_book.proofs.SoundLemmas.{Sound-left}
use Rattle.pool_book.proofs.book.PoolBook.refuse.Goals as goal

pub invariant_of-self : goal.invariant_of-self
invariant_of-self c = record {
  room = record {
    pending = omega (arith, c.self.invariant.room.pending, c.leave.ensures.bound);
    lent = omega (arith, c.self.invariant.room.lent, c.leave.ensures.bound);
    available = omega (arith, c.self.invariant.room.available, c.leave.ensures.bound);
    numbers = omega (arith, c.self.invariant.room.numbers, c.leave.ensures.bound, c.leave.ensures.given);
    counted = subst (λ n. n < 2 ^ 64) (sym c.leave.ensures.given) c.self.invariant.room.counted;
  };
  sound = rw (c.leave.ensures.items, c.leave.ensures.given) (Sound-left (pool_of c.self.inside) c.args.number c.self.invariant.sound);
}
