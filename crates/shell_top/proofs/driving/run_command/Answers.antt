use Rattle.shell_top.proofs.GoingLemmas.{answered-by}
use Rattle.shell_top.proofs.driving.run_command.Goals as goal

pub returns-then-is_answered-clause-answered : goal.returns-then-is_answered-clause-answered
returns-then-is_answered-clause-answered g c =
    answered-by c.args.desk.now.desk.trail.steps c.args.tallies.now c.args.op c.requires.told.each c.requires.given (c.is_answered.ensures.yes c.if-is_answered.true)
