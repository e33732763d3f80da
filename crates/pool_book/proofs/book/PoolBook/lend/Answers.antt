-- The last available connection is lent to a ticket of the line.
use Rattle.std.proofs.Common.{◌≡◌, ◌+◌, ◌-◌, ◌<◌, ◌≤◌, ◌^◌, length, sym, ap, subst, ◌∙◌, arith}
use Rattle.std.proofs.lemmas.List.{length-append, length-take-le}
use Rattle.pool_book.specs.Inside.{pool_of}
use Rattle.pool_book.proofs.KeptLemmas.{some_is, Sound-lent_by}
use Rattle.pool_book.proofs.book.PoolBook.lend.Goals as goal

pub invariant_of-self : goal.invariant_of-self
invariant_of-self c =
    let waits = rw (← c.self.view_is) at c.requires.waits in
    let t = some_is _ waits in
    let fewer = c.leave.ensures.fewer waits in
    let more : length c.put.new.self.items ≡ length c.self.inside.lent.items + 1 = ap length c.put.ensures.items ∙ length-append _ _ in
    let less : length c.pop.new.self.items ≤ length c.self.inside.available.items =
    rw c.pop.ensures.items (omega (arith, length-take-le (length c.self.inside.available.items - 1) c.self.inside.available.items (omega arith))) in
    record {
      room = record {
        pending = omega (arith, c.self.invariant.room.pending, fewer, more, less);
        lent = omega (arith, c.self.invariant.room.lent, fewer, more, less, c.put.ensures.room);
        available = omega (arith, c.self.invariant.room.available, fewer, more, less, c.pop.ensures.room);
        numbers = omega (arith, c.self.invariant.room.numbers, fewer, c.leave.ensures.given);
        counted = subst (λ n. n < 2 ^ 64) (sym c.leave.ensures.given) c.self.invariant.room.counted;
      };
      sound = rw (c.pop.ensures.items, c.leave.ensures.items, c.leave.ensures.given, c.put.ensures.items)
          (Sound-lent_by (pool_of c.self.inside) c.args.number t.0 c.in-Some.last c.self.invariant.sound t.1 (sym c.pop.ensures.last ∙ c.in-Some.is));
    }
