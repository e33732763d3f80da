-- The pending connections without one.
use Rattle.std.proofs.Common.{◌≤◌, length, arith}
use Rattle.pool_book.specs.Inside.{pool_of}
use Rattle.pool_book.proofs.KeptLemmas.{length-without_held}
use Rattle.pool_book.proofs.SoundLemmas.{Sound-gone}
use Rattle.pool_book.proofs.book.PoolBook.lost.Goals as goal

pub invariant_of-self : goal.invariant_of-self
invariant_of-self c =
    let fewer : length c.take_out.new.self.items ≤ length c.self.inside.pending.items = rw c.take_out.ensures.items (length-without_held c.args.conn c.self.inside.pending.items) in
    record {
      room = record {
        pending = omega (arith, c.self.invariant.room.pending, fewer, c.take_out.ensures.room);
        lent = omega (arith, c.self.invariant.room.lent, fewer);
        available = omega (arith, c.self.invariant.room.available, fewer);
        numbers = c.self.invariant.room.numbers;
        counted = c.self.invariant.room.counted;
      };
      sound = rw c.take_out.ensures.items (Sound-gone (pool_of c.self.inside) c.args.conn c.self.invariant.sound);
    }
