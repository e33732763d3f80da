use Rattle.shell_top.proofs.RunLemmas.{did-closed, reports}
use Rattle.shell_top.proofs.running.run_desk.Goals as goal

pub returns-clause-did : goal.returns-clause-did
returns-clause-did g c =
    let played = c.play-played.ensures in
    let done = c.report_on-status.ensures.done in
    did-closed _ g.N.Net.history g.N.Net.faults g.C.Clock.shows g.D.Dice.rolls g.L.Listener.heard g.J.Opening.opened c.play-played.result.ended c.report_on-status.result played.closed
    (λ d. played.runs (done d)) (λ d. played.answered (done d))

pub returns-clause-reports : goal.returns-clause-reports
returns-clause-reports g c =
    reports _ g.K.Sink.written _ _ g.J.Opening.opened.client c.play-played.result.ended.finished c.play-played.new.tallies c.report_on-status.result
    c.play-played.ensures.closed.settings c.play-played.ensures.told c.report_on-status.ensures.verdict c.report_on-status.ensures.written
