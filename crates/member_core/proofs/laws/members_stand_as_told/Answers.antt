use Rattle.member_core.specs.Logs.{set_after}
use Rattle.member_core.proofs.Stands.{effect_fits, ok_is_plain, stand_answer, stand_election, stand_following}
use Rattle.member_core.proofs.laws.members_stand_as_told.Goals as goal

pub returns-clause-fits : goal.returns-clause-fits
returns-clause-fits c = λ members history m s n request stand whole. effect_fits members (set_after history) m s n request stand whole

pub returns-clause-ok : goal.returns-clause-ok
returns-clause-ok c = ok_is_plain

pub returns-clause-answer : goal.returns-clause-answer
returns-clause-answer c = stand_answer

pub returns-clause-elect : goal.returns-clause-elect
returns-clause-elect c = stand_election

pub returns-clause-follow : goal.returns-clause-follow
returns-clause-follow c = stand_following
