use Rattle.trail_tally.proofs.TallyLemmas.{tallies-exact}
use Rattle.trail_tally.proofs.laws.tallies_are_those_of_the_trail.Goals as goal

pub returns : goal.returns
returns s commands steps ts are count few = tallies-exact commands steps ts few count are
