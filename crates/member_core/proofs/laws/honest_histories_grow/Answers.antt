use Rattle.member_core.proofs.Growth.{honest-more, honest-nil}
use Rattle.member_core.proofs.laws.honest_histories_grow.Goals as goal

pub returns-clause-none : goal.returns-clause-none
returns-clause-none c = honest-nil

pub returns-clause-more : goal.returns-clause-more
returns-clause-more c = honest-more
