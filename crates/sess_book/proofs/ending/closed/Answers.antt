use Rattle.std.proofs.Common.{◌<◌, refl, sym, subst, arith, length}
use Rattle.std.specs.Prelude.{◌++◌, flat_map}
use Rattle.sess_book.specs.Ending.{IsParted}
use Rattle.sess_book.proofs.EndingLemmas.{parted_closed}
use Rattle.sess_book.proofs.ending.closed.Goals as goal

pub returns : goal.returns
returns c =
    let count = c.len.ensures.count in
    let other = c.if-len-eq0.false in
    let some : 0 < length c.args.last = grind (arith, count, other) in
    subst (λ m. IsParted m (flat_map (λ l. l) c.args.lists ++ c.args.last)) (sym c.in_ok-push.ensures.ok)
    (parted_closed c.args.lists c.args.last c.requires.full c.requires.few some)
