use Rattle.entry_judge.specs.PartLaws.{EachLeads-empty, EachLeads-begins, EachLeads-group}
use Rattle.entry_judge.proofs.laws.each_part_moves_alone.Goals as goal

pub returns-clause-none : goal.returns-clause-none
returns-clause-none g c = EachLeads-empty g.J.HasJudge.judge

pub returns-clause-begins : goal.returns-clause-begins
returns-clause-begins g c = EachLeads-begins g.J.HasJudge.judge

pub returns-clause-goes_on : goal.returns-clause-goes_on
returns-clause-goes_on g c = EachLeads-group g.J.HasJudge.judge
