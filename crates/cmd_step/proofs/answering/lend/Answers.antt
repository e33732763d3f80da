use Rattle.std.proofs.Common.{refl, ap, ◌∙◌}
use Rattle.desk_trail.specs.Facts as fact
use Rattle.desk_trail.specs.Legal.{Point}
use Rattle.cmd_step.proofs.PlaceLemmas.{StandsAt-lent, behind-lent}
use Rattle.cmd_step.proofs.answering.lend.Goals as goal

pub append-requires-clause-stands : goal.append-requires-clause-stands
append-requires-clause-stands g c = (
  fact.Lent c.args.at.op c.args.at.host c.args.conn,
  refl,
  StandsAt-lent c.args.wired.now.trail.client c.args.wired.now.trail.point c.args.at c.args.conn c.args.server.now c.args.running.now c.requires.free c.requires.answered,
)

pub returns-clause-lent : goal.returns-clause-lent
returns-clause-lent g c =
    let adds = c.append.ensures.adds (fact.Lent c.args.at.op c.args.at.host c.args.conn) refl in
    record {
      adds = adds;
      moved = ap (λ (p : Point). p.state) adds.point_now
          ∙ behind-lent c.args.wired.now.trail.client c.args.wired.now.trail.point.state c.args.at c.args.conn c.args.server.now c.args.running.now c.take.new.self c.requires.answered
          c.take.ensures.has;
    }
