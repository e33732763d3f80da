use Rattle.std.proofs.Common.{refl, ap, ◌∙◌}
use Rattle.write_retry.specs.declared.attempt_end.AttemptEnd.TheVariants as attempt
use Rattle.desk_trail.specs.Facts as fact
use Rattle.desk_trail.specs.Legal.{Point}
use Rattle.cmd_step.proofs.EndLemmas.{behind-ended}
use Rattle.cmd_step.proofs.SendLemmas.{StandsAt-too_large, over-allowed}
use Rattle.cmd_step.proofs.sending.end_too_large.Goals as goal

pub append-requires-clause-stands : goal.append-requires-clause-stands
append-requires-clause-stands g c = (
  fact.Ended c.args.op (attempt.Unsent c.args.why),
  refl,
  StandsAt-too_large c.args.wired.now.trail c.args.moment c.args.op c.args.why c.args.running.now c.requires.free c.requires.there c.requires.sends c.requires.too_large,
)

pub end-requires : goal.end-requires
end-requires g c = record { awaited = over-allowed c.args.wired.now.trail c.args.op c.args.why c.args.running.now.op.next c.requires.sends c.requires.too_large }

pub returns-clause-adds : goal.returns-clause-adds
returns-clause-adds g c = c.append.ensures.adds (fact.Ended c.args.op (attempt.Unsent c.args.why)) refl

pub returns-clause-moved : goal.returns-clause-moved
returns-clause-moved g c =
    let adds = c.append.ensures.adds (fact.Ended c.args.op (attempt.Unsent c.args.why)) refl in
    ap (λ (p : Point). p.state) adds.point_now
    ∙ behind-ended c.args.wired.now.trail.client c.args.wired.now.trail.point.state c.args.moment c.args.op (attempt.Unsent c.args.why) c.args.running.now c.end.new.self c.requires.there
    c.end.ensures.ended
