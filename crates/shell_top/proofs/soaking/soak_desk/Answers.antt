use Rattle.net_link.specs.Causes.{count_of}
use Rattle.member_hall.specs.Halls.{HallState}
use Rattle.shell_top.proofs.RunLemmas.{did-closed}
use Rattle.shell_top.proofs.SoakLemmas.{played, soaks-to}
use Rattle.shell_top.proofs.soaking.soak_desk.Goals as goal

pub returns-clause-soaks : goal.returns-clause-soaks
returns-clause-soaks g c =
    let run = c.play-played.ensures in
    let done = c.sum_up-status.ensures.done in
    let shows = g.C.Clock.shows in
    let rolls = g.D.Dice.rolls in
    let heard_by = g.L.Listener.heard in
    let opened = g.J.Opening.opened in
    let ended = c.play-played.result.ended in
    let d = did-closed (Unit {0}) (λ (h : HallState). h.events) (λ (h : HallState). count_of h.faults) shows rolls heard_by opened ended c.sum_up-status.result run.closed
    (λ is. run.runs (done is)) (λ is. run.answered (done is)) in
    let is = played shows rolls heard_by opened ended.finished ended.hooks c.play-played.new.tallies c.sum_up-status.result run.closed.commands run.told c.history_is_honest.ensures d in
    soaks-to _ g.K.Sink.written _ _ shows rolls heard_by opened ended.finished ended.hooks c.play-played.new.tallies c.sum_up-status.result is d c.sum_up-status.ensures.verdict
    c.sum_up-status.ensures.written
