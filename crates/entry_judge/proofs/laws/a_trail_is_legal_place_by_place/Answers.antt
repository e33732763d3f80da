use Rattle.entry_judge.specs.GroupLaws.{IsTrail-at, IsTrail-from}
use Rattle.entry_judge.proofs.laws.a_trail_is_legal_place_by_place.Goals as goal

pub returns-clause-at : goal.returns-clause-at
returns-clause-at g c = IsTrail-at g.J.HasJudge.judge

pub returns-clause-from : goal.returns-clause-from
returns-clause-from g c = IsTrail-from g.J.HasJudge.judge
