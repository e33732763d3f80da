use Rattle.server_pick.proofs.LawLemmas.{kept_candidates}
use Rattle.server_pick.specs.Candidates.{candidates}
use Rattle.server_pick.proofs.laws.what_is_kept_is_a_candidate.Goals as goal

pub returns : goal.returns
returns g c = λ t criteria load p q kept run. kept_candidates g.P.Picker.allows g.P.Picker.follows p (candidates t criteria load) kept q run
