use Rattle.msg_wire.proofs.PlaceLemmas.{inside}
use Rattle.msg_wire.proofs.laws.places.Goals as goal

pub returns-clause-bytes : goal.returns-clause-bytes
returns-clause-bytes c = λ bytes e at h place. (inside bytes e at h place).0

pub returns-clause-message : goal.returns-clause-message
returns-clause-message c = λ bytes e at n h place need. (inside bytes e at h place).1 n need
