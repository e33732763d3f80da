use Rattle.server_pick.proofs.LawLemmas.{nearest_candidates}
use Rattle.server_pick.proofs.laws.nearest_lets_every_member_in.Goals as goal

pub returns : goal.returns
returns c = nearest_candidates
