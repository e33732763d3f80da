use Rattle.server_pick.proofs.LawLemmas.{none_kept, kept_none}
use Rattle.server_pick.proofs.laws.none_fits_where_nothing_is_kept.Goals as goal

pub returns : goal.returns
returns c = λ m threshold kept load w1 w2. (none_kept m threshold kept load w1 w2, kept_none m threshold kept load w1 w2)
