-- The pending connections without one, which is lent or gone.
use Rattle.std.proofs.Common.{◌≡◌, ◌+◌, ◌≤◌, length, sym, ap, ◌∙◌, arith}
use Rattle.std.proofs.lemmas.List.{length-append}
use Rattle.pool_book.specs.Inside.{pool_of}
use Rattle.pool_book.proofs.KeptLemmas.{length-without_held, Sound-settled_by}
use Rattle.pool_book.proofs.SoundLemmas.{Sound-gone}
use Rattle.pool_book.proofs.book.PoolBook.established.Goals as goal

pub invariant_of-self : goal.invariant_of-self
invariant_of-self c =
    let fewer : length c.take_out.new.self.items ≤ length c.self.inside.pending.items = rw c.take_out.ensures.items (length-without_held c.args.conn c.self.inside.pending.items) in
    record {
      room = record {
        pending = omega (arith, c.self.invariant.room.pending, fewer, c.take_out.ensures.room);
        lent = omega (arith, c.self.invariant.room.lent, fewer);
        available = omega (arith, c.self.invariant.room.available, fewer);
        numbers = c.self.invariant.room.numbers;
        counted = c.self.invariant.room.counted;
      };
      sound = rw c.take_out.ensures.items (Sound-gone (pool_of c.self.inside) c.args.conn c.self.invariant.sound);
    }

pub invariant_of-self-2 : goal.invariant_of-self-2
invariant_of-self-2 c =
    let fewer : length c.take_out.new.self.items + 1 ≤ length c.self.inside.pending.items = c.in-Some.ensures.fewer in
    let more : length c.put.new.self.items ≡ length c.self.inside.lent.items + 1 = ap length c.put.ensures.items ∙ length-append _ _ in
    record {
      room = record {
        pending = omega (arith, c.self.invariant.room.pending, fewer, more, c.take_out.ensures.room);
        lent = omega (arith, c.self.invariant.room.lent, fewer, more, c.put.ensures.room);
        available = omega (arith, c.self.invariant.room.available, fewer, more);
        numbers = c.self.invariant.room.numbers;
        counted = c.self.invariant.room.counted;
      };
      sound = rw (c.take_out.ensures.items, c.put.ensures.items) (Sound-settled_by (pool_of c.self.inside) c.args.conn c.in-Some.held c.self.invariant.sound (sym c.take_out.ensures.found ∙ c.in-Some.is));
    }
