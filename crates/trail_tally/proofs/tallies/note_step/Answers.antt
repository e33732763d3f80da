use Rattle.std.proofs.Common.{refl}
use Rattle.trail_tally.proofs.TallyLemmas.{nothing-said, tallies-answered, tallies-ended, tallies-still}
use Rattle.trail_tally.proofs.tallies.note_step.Goals as goal

pub returns-in-Ended-clause-each : goal.returns-in-Ended-clause-each
returns-in-Ended-clause-each c =
    λ before are. tallies-ended c.args.step.now c.in-Ended.op c.in-Ended.end before c.args.tallies.now c.note_end.new.tallies c.in-Ended.is c.note_end.ensures are

pub returns-in-Finished-clause-each : goal.returns-in-Finished-clause-each
returns-in-Finished-clause-each c =
    λ before are. tallies-answered c.args.step.now c.in-Finished.op c.in-Finished.outcome before c.args.tallies.now c.note_answer.new.tallies c.in-Finished.is c.note_answer.ensures are

pub returns-in_default : goal.returns-in_default
returns-in_default c = record {
  count = refl;
  each = λ before are. tallies-still c.args.step.now before c.args.tallies.now (nothing-said c.args.step.now.entry c.in_default.not-Ended c.in_default.not-Finished) are;
}
