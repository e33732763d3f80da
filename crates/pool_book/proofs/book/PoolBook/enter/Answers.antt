-- The ticket stands last in the line, and each list has room for one more.
use Rattle.std.proofs.Common.{◌≡◌, ◌+◌, ◌-◌, ◌<◌, ◌^◌, length, ap, ◌∙◌, arith}
use Rattle.std.proofs.lemmas.List.{length-append}
use Rattle.pool_book.specs.Inside.{pool_of}
use Rattle.pool_book.proofs.SoundLemmas.{Sound-entered}
use Rattle.pool_book.proofs.book.PoolBook.enter.Goals as goal

pub invariant_of-self-2 : goal.invariant_of-self-2
invariant_of-self-2 c =
    let more : length c.enter.new.self.items ≡ length c.self.inside.line.items + 1 = ap length c.in_ok-ticket.ensures.items ∙ length-append _ _ in
    let pending : length c.reserve_for.new.self.items ≡ length c.self.inside.pending.items = ap length c.reserve_for.ensures.items in
    let lent : length c.reserve_for-2.new.self.items ≡ length c.self.inside.lent.items = ap length c.reserve_for-2.ensures.items in
    let free : length c.reserve_for-3.new.self.items ≡ length c.self.inside.available.items = ap length c.reserve_for-3.ensures.items in
    let limit : c.self.inside.line.given < 2 ^ 64 - 1 = rw (← c.self.view_is) at c.requires in
    record {
      room = record {
        pending = omega (arith, more, pending, lent, free, c.in_ok-reserve_for.ensures.room, c.len.ensures, c.len-2.ensures.len, c.len-3.ensures.len, c.len-4.ensures);
        lent = omega (arith, more, pending, lent, free, c.in_ok-reserve_for-2.ensures.room, c.len.ensures, c.len-2.ensures.len, c.len-3.ensures.len, c.len-4.ensures);
        available = omega (arith, more, pending, lent, free, c.in_ok-reserve_for-3.ensures.room, c.len.ensures, c.len-2.ensures.len, c.len-3.ensures.len, c.len-4.ensures);
        numbers = omega (arith, more, c.in_ok-ticket.ensures.given, c.self.invariant.room.numbers);
        counted = omega (arith, c.in_ok-ticket.ensures.given, limit);
      };
      sound =
          rw (c.reserve_for.ensures.items, c.reserve_for-2.ensures.items, c.reserve_for-3.ensures.items, c.in_ok-ticket.ensures.items, c.in_ok-ticket.ensures.ticket, c.in_ok-ticket.ensures.given)
          (Sound-entered (pool_of c.self.inside) c.args.moment c.self.invariant.sound);
    }
