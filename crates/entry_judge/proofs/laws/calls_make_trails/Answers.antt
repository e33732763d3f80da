use Rattle.entry_judge.specs.GroupLaws.{LeadsTo-group}
use Rattle.entry_judge.proofs.laws.calls_make_trails.Goals as goal

pub returns-clause-goes_on : goal.returns-clause-goes_on
returns-clause-goes_on g c = LeadsTo-group g.J.HasJudge.judge
