use Rattle.std.proofs.Common.{[], ◌∷◌}
use Rattle.desk_wire.specs.Gains.{turned_as}
use Rattle.desk_wire.proofs.GainLemmas.{OnlyAt-made, turn-pulled, turn-pushed}
use Rattle.desk_wire.proofs.laws.on_one_stream.Goals as goal

pub returns-clause-pushes : goal.returns-clause-pushes
returns-clause-pushes c = λ stream sent answer old new made. OnlyAt-made stream sent [] (0 ∷ []) (turned_as answer) (turn-pushed stream sent answer made)

pub returns-clause-pulls : goal.returns-clause-pulls
returns-clause-pulls c = λ stream came answer old new made. OnlyAt-made stream [] came [] answer (turn-pulled stream came answer made)

pub returns-clause-exchanges : goal.returns-clause-exchanges
returns-clause-exchanges c = λ stream sent came unsent answer old new made. OnlyAt-made stream sent came unsent answer made
