use Rattle.std.proofs.Common.{refl, ap, ◌∙◌}
use Rattle.desk_trail.specs.Facts as fact
use Rattle.desk_trail.specs.Legal.{Point}
use Rattle.cmd_step.proofs.EndLemmas.{StandsAt-finished, behind-finished}
use Rattle.cmd_step.proofs.ending.finish.Goals as goal

pub append-requires-clause-stands : goal.append-requires-clause-stands
append-requires-clause-stands g c = (
  fact.Finished c.args.op c.args.outcome,
  refl,
  StandsAt-finished c.args.wired.now.trail.client c.args.wired.now.trail.point c.args.moment c.args.op c.args.outcome c.args.running.now c.requires.free c.requires.there c.requires.answers,
)

pub returns-clause-adds : goal.returns-clause-adds
returns-clause-adds g c = c.append.ensures.adds (fact.Finished c.args.op c.args.outcome) refl

pub returns-clause-moved : goal.returns-clause-moved
returns-clause-moved g c =
    let adds = c.append.ensures.adds (fact.Finished c.args.op c.args.outcome) refl in
    ap (λ (p : Point). p.state) adds.point_now
    ∙ behind-finished c.args.wired.now.trail.client c.args.wired.now.trail.point.state c.args.moment c.args.op c.args.outcome c.args.running.now c.finish.new.self c.requires.there
    c.finish.ensures.finished
