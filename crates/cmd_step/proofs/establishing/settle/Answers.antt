use Rattle.std.proofs.Common.{false, true, sym, ap, ◌∙◌}
use Rattle.desk_trail.specs.States.{ServerState}
use Rattle.cmd_step.proofs.SettleLemmas.{is-settled, lent-sound, stale-worthless}
use Rattle.cmd_step.proofs.establishing.settle.Goals as goal

pub lend_dialled-requires-clause-settled : goal.lend_dialled-requires-clause-settled
lend_dialled-requires-clause-settled g c =
    let d = c.requires.dialled in
    is-settled c.args.wired.now.trail.point.state c.args.at c.args.greeted.conn false c.args.server.now c.established.new.self c.args.running.now c.requires.places c.requires.idle d
    (c.established.ensures.goes d.held d.pending) (lent-sound c.args.server.now.pool.state d.held (sym c.in-Lent.is ∙ c.established.ensures.answer d.held d.pending))

pub shut_dialled-why-requires-clause-settled : goal.shut_dialled-why-requires-clause-settled
shut_dialled-why-requires-clause-settled g c =
    let d = c.requires.dialled in
    is-settled c.args.wired.now.trail.point.state c.args.at c.args.greeted.conn true c.args.server.now c.established.new.self c.args.running.now c.requires.places c.requires.idle d
    (c.established.ensures.goes d.held d.pending)
    (stale-worthless c.args.server.now.pool.state d.held c.in-Stale.generation (sym c.in-Stale.is ∙ c.established.ensures.answer d.held d.pending))

pub returns-in-Lent-clause-idle : goal.returns-in-Lent-clause-idle
returns-in-Lent-clause-idle g c = ap (λ (x : ServerState). x.pool.owed) (c.established.ensures.goes c.requires.dialled.held c.requires.dialled.pending).moves

pub returns-in-Stale-clause-idle : goal.returns-in-Stale-clause-idle
returns-in-Stale-clause-idle g c = ap (λ (x : ServerState). x.pool.owed) (c.established.ensures.goes c.requires.dialled.held c.requires.dialled.pending).moves

pub lend_dialled-requires-clause-heard : goal.lend_dialled-requires-clause-heard
lend_dialled-requires-clause-heard g c = λ tells. c.requires.heard tells false

pub shut_dialled-why-requires-clause-heard : goal.shut_dialled-why-requires-clause-heard
shut_dialled-why-requires-clause-heard g c = λ tells. c.requires.heard tells true
