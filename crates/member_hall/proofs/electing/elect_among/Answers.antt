use Rattle.std.proofs.Common.{◌≢◌, ◌∙◌, ap, arith}
use Rattle.std.proofs.lemmas.Result.{on_ok_weaker}
use Rattle.std.specs.List.{slice_set}
use Rattle.member_hall.specs.Halls.{PeerState}
use Rattle.member_hall.proofs.Peers.{elected_apart, elects, split_ahead, split_behind}
use Rattle.member_hall.proofs.electing.elect_among.Goals as goal

pub returns-then-place-last-2-clause-ok : goal.returns-then-place-last-2-clause-ok
returns-then-place-last-2-clause-ok c =
    let s = c.split_at_mut-front in
    let all = c.args.peers.now in
    let apart : c.args.last ≢ c.args.place = omega arith in
    on_ok_weaker c.elect_behind.result
    (λ made. split_behind (elects c.args.number) s.result.0.now s.result.1.now all c.args.place c.args.last c.index-front-place.result c.index-back-0.result c.elect_behind.new.self
    s.ensures.value s.ensures.front_len c.if-place-last-2.true c.requires.last c.index-front-place.is c.index-back-0.is made
    ∙ ap (λ (p : PeerState). slice_set all c.args.place p) (elected_apart all c.args.place c.args.last c.args.number apart))
    c.elect_behind.ensures.ok

pub returns-clause-ok : goal.returns-clause-ok
returns-clause-ok c =
    let s = c.split_at_mut-front-2 in
    let all = c.args.peers.now in
    let apart : c.args.last ≢ c.args.place = omega (arith, c.if-place-last.false) in
    on_ok_weaker c.elect_behind-2.result
    (λ made. split_ahead (elects c.args.number) s.result.0.now s.result.1.now all c.args.place c.args.last c.index-back-0-2.result c.index-front-last.result c.elect_behind-2.new.self
    s.ensures.value s.ensures.front_len (omega (arith, c.if-place-last.false, c.if-place-last-2.false)) c.requires.place c.index-back-0-2.is c.index-front-last.is made
    ∙ ap (λ (p : PeerState). slice_set all c.args.place p) (elected_apart all c.args.place c.args.last c.args.number apart))
    c.elect_behind-2.ensures.ok
