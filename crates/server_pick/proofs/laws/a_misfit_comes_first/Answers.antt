use Rattle.server_pick.proofs.LawLemmas.{misfit_first}
use Rattle.server_pick.proofs.laws.a_misfit_comes_first.Goals as goal

pub returns : goal.returns
returns c = misfit_first
