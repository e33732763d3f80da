use Rattle.std.proofs.Common.{◌∷◌, ◌++◌, [], ◌∙◌, sym, arith}
use Rattle.std.proofs.lemmas.List.FromFn.{map-range_with_len_more}
use Rattle.member_hall.specs.Making.{peer_of}
use Rattle.member_hall.proofs.making.members.Goals as goal

pub loop-place-preserved : goal.loop-place-preserved
loop-place-preserved c =
    c.in_ok-push.ensures.items
    ∙ (λ i. c.loop-place.invariant i ++ c.in_ok-new.ensures.peer i ∷ [])
    ∙ sym (map-range_with_len_more (peer_of c.args.set.now c.args.hosts.now) 0 c.loop-place.place c.loop-place.place (omega arith))
