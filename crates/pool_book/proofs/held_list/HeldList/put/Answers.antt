-- The connection stands last.
use Rattle.std.proofs.Common.{refl, arith}
use Rattle.std.proofs.lemmas.List.{length-append}
use Rattle.pool_book.proofs.RowLemmas.{live-push}
use Rattle.pool_book.proofs.held_list.HeldList.put.Goals as goal

pub invariant_of-self : goal.invariant_of-self
invariant_of-self c =
    rw (c.push_reserved.ensures.items, live-push _ _, c.make_room.ensures.live, length-append _ _) (omega (arith, c.self.invariant))

pub returns-clause-items : goal.returns-clause-items
returns-clause-items c = rw (c.push_reserved.ensures.items, live-push _ _, c.make_room.ensures.live, ← c.self.view_is) refl
