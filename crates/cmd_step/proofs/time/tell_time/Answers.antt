use Rattle.cmd_step.proofs.StepLemmas.{StandsAt-time}
use Rattle.cmd_step.proofs.time.tell_time.Goals as goal

pub tell_time-requires-clause-stands : goal.tell_time-requires-clause-stands
tell_time-requires-clause-stands g c = StandsAt-time c.args.wired.now.trail.client c.args.wired.now.trail.point c.args.moment c.args.stamp c.requires.may
