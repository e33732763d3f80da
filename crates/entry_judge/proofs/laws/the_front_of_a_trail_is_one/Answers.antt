use Rattle.entry_judge.specs.GroupLaws.{IsTrail-front}
use Rattle.entry_judge.proofs.laws.the_front_of_a_trail_is_one.Goals as goal

pub returns : goal.returns
returns g c = IsTrail-front g.J.HasJudge.judge
