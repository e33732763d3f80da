use Rattle.std.proofs.Common.{arith}
use Rattle.std.proofs.lemmas.Result.{on_ok_weaker}
use Rattle.member_hall.proofs.Peers.{follows, split_ahead, split_behind}
use Rattle.member_hall.proofs.electing.follow_among.Goals as goal

pub returns-then-place-last-clause-ok : goal.returns-then-place-last-clause-ok
returns-then-place-last-clause-ok c =
    let s = c.split_at_mut-front in
    on_ok_weaker c.follow.result
    (λ made. split_behind follows s.result.0.now s.result.1.now c.args.peers.now c.args.place c.args.last c.index-front-place.result c.index-back-0.result c.follow.new.self
    s.ensures.value s.ensures.front_len c.if-place-last.true c.requires.last c.index-front-place.is c.index-back-0.is made)
    c.follow.ensures.ok

pub returns-clause-ok : goal.returns-clause-ok
returns-clause-ok c =
    let s = c.split_at_mut-front-2 in
    on_ok_weaker c.follow-2.result
    (λ made. split_ahead follows s.result.0.now s.result.1.now c.args.peers.now c.args.place c.args.last c.index-back-0-2.result c.index-front-last.result c.follow-2.new.self
    s.ensures.value s.ensures.front_len (omega (arith, c.if-place-last.false, c.requires.other)) c.requires.place c.index-back-0-2.is c.index-front-last.is made)
    c.follow-2.ensures.ok
