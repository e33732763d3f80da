use Rattle.std.proofs.Common.{◌≡◌, take}
use Rattle.std.specs.Prelude.{fold}
use Rattle.conn_uri.specs.Choices.{took}
use Rattle.conn_uri.specs.Configurations.{defaults}
use Rattle.conn_uri.proofs.choosing.choose.Given as goal

abbrev pub invariant-loop-piece : goal.invariant-loop-piece
invariant-loop-piece l = l.chosen ≡ fold took defaults (take l.piece-index l.pieces)
