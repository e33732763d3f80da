-- The next connection is pending, and its ticket left the line.
use Rattle.std.proofs.Common.{◌≡◌, ◌+◌, ◌<◌, ◌^◌, length, sym, ap, subst, ◌∙◌, arith}
use Rattle.std.proofs.lemmas.List.{length-append}
use Rattle.pool_book.specs.Inside.{pool_of}
use Rattle.pool_book.proofs.KeptLemmas.{some_is, Sound-dialled_by}
use Rattle.pool_book.proofs.book.PoolBook.dial.Goals as goal

pub invariant_of-self : goal.invariant_of-self
invariant_of-self c =
    let waits = rw (← c.self.view_is) at c.requires.waits in
    let next : c.args.conn ≡ c.self.inside.dialled + 1 = rw (← c.self.view_is) at c.requires.next in
    let t = some_is _ waits in
    let fewer = c.leave.ensures.fewer waits in
    let more : length c.put.new.self.items ≡ length c.self.inside.pending.items + 1 = ap length c.put.ensures.items ∙ length-append _ _ in
    record {
      room = record {
        pending = omega (arith, c.self.invariant.room.pending, fewer, more, c.put.ensures.room);
        lent = omega (arith, c.self.invariant.room.lent, fewer, more);
        available = omega (arith, c.self.invariant.room.available, fewer, more);
        numbers = omega (arith, c.self.invariant.room.numbers, fewer, next, c.leave.ensures.given);
        counted = subst (λ n. n < 2 ^ 64) (sym c.leave.ensures.given) c.self.invariant.room.counted;
      };
      sound = rw (c.leave.ensures.items, c.leave.ensures.given, c.put.ensures.items)
          (Sound-dialled_by (pool_of c.self.inside) c.args.number c.args.conn t.0 c.self.invariant.sound t.1 next);
    }
