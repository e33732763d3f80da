use Rattle.member_hall.proofs.Honesty.{sound_dialled, sound_out}
use Rattle.member_hall.proofs.laws.calls_keep_histories_honest.Goals as goal

pub returns-clause-dial : goal.returns-clause-dial
returns-clause-dial c = sound_dialled

pub returns-clause-out : goal.returns-clause-out
returns-clause-out c = sound_out
