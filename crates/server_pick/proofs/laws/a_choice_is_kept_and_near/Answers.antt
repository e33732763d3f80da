use Rattle.server_pick.proofs.LawLemmas.{near_choice}
use Rattle.server_pick.proofs.laws.a_choice_is_kept_and_near.Goals as goal

pub returns : goal.returns
returns c = near_choice
