use Rattle.server_pick.proofs.LawLemmas.{none_incompatible}
use Rattle.server_pick.proofs.laws.nothing_is_incompatible_without_a_misfit.Goals as goal

pub returns : goal.returns
returns c = none_incompatible
