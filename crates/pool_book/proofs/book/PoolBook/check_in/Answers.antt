-- The lent connections without one, which is available again or gone.
use Rattle.std.proofs.Common.{◌≡◌, ◌+◌, ◌≤◌, length, sym, ap, ◌∙◌, arith}
use Rattle.std.proofs.lemmas.List.{length-append}
use Rattle.pool_book.specs.Inside.{pool_of}
use Rattle.pool_book.proofs.KeptLemmas.{length-without_held, Sound-lent_gone, Sound-kept}
use Rattle.pool_book.proofs.book.PoolBook.check_in.Goals as goal

pub invariant_of-self : goal.invariant_of-self
invariant_of-self c =
    let fewer : length c.take_out.new.self.items ≤ length c.self.inside.lent.items = rw c.take_out.ensures.items (length-without_held c.args.conn c.self.inside.lent.items) in
    record {
      room = record {
        pending = omega (arith, c.self.invariant.room.pending, fewer);
        lent = omega (arith, c.self.invariant.room.lent, fewer, c.take_out.ensures.room);
        available = omega (arith, c.self.invariant.room.available, fewer);
        numbers = c.self.invariant.room.numbers;
        counted = c.self.invariant.room.counted;
      };
      sound = rw c.take_out.ensures.items (Sound-lent_gone (pool_of c.self.inside) c.args.conn c.self.invariant.sound);
    }

pub invariant_of-self-2 : goal.invariant_of-self-2
invariant_of-self-2 c =
    let fewer : length c.take_out.new.self.items + 1 ≤ length c.self.inside.lent.items = c.in-Some.ensures.fewer in
    let more : length c.put.new.self.items ≡ length c.self.inside.available.items + 1 = ap length c.put.ensures.items ∙ length-append _ _ in
    record {
      room = record {
        pending = omega (arith, c.self.invariant.room.pending, fewer, more);
        lent = omega (arith, c.self.invariant.room.lent, fewer, more, c.take_out.ensures.room);
        available = omega (arith, c.self.invariant.room.available, fewer, more, c.put.ensures.room);
        numbers = c.self.invariant.room.numbers;
        counted = c.self.invariant.room.counted;
      };
      sound = rw (c.take_out.ensures.items, c.put.ensures.items)
          (Sound-kept (pool_of c.self.inside) c.args.conn c.args.moment c.in-Some.held c.self.invariant.sound (sym c.take_out.ensures.found ∙ c.in-Some.is) (sym c.is_worthless.ensures ∙ c.if-is_worthless.false));
    }
