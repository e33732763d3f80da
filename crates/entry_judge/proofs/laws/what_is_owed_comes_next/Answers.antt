use Rattle.entry_judge.specs.GroupLaws.{IsTrail-owed}
use Rattle.entry_judge.proofs.laws.what_is_owed_comes_next.Goals as goal

pub returns : goal.returns
returns g c = IsTrail-owed g.J.HasJudge.judge
