use Rattle.desk_trail.specs.Legal.{beginning}
use Rattle.desk_trail.proofs.OrderLemmas.{never-falls}
use Rattle.desk_trail.proofs.laws.places.moments_never_fall.Goals as goal

pub returns : goal.returns
returns c client ts l = never-falls client (beginning client) ts l
