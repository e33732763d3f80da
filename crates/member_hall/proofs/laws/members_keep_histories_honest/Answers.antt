use Rattle.member_hall.proofs.Playing.{plays_elected, plays_end, plays_following, plays_late, plays_met, plays_request}
use Rattle.member_hall.proofs.laws.members_keep_histories_honest.Goals as goal

pub returns-clause-elect : goal.returns-clause-elect
returns-clause-elect c = plays_elected

pub returns-clause-follow : goal.returns-clause-follow
returns-clause-follow c = plays_following

pub returns-clause-meet : goal.returns-clause-meet
returns-clause-meet c = plays_met

pub returns-clause-end : goal.returns-clause-end
returns-clause-end c = plays_end

pub returns-clause-request : goal.returns-clause-request
returns-clause-request c = plays_request

pub returns-clause-late : goal.returns-clause-late
returns-clause-late c = plays_late
