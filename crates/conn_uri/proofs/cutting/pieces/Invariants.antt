use Rattle.std.proofs.Common.{◌≡◌, ◌++◌, length}
use Rattle.std.specs.Prelude.{map}
use Rattle.conn_uri.specs.Grammar.{pieces}
use Rattle.conn_uri.specs.Inside.{part_of}
use Rattle.conn_uri.proofs.cutting.pieces.Given as goal

abbrev pub invariant-loop-mark : goal.invariant-loop-mark
invariant-loop-mark l = map part_of l.pieces.items ++ pieces l.mark (part_of l.rest) ≡ pieces l.mark (part_of l.initial.rest)

abbrev pub decreases-loop-mark : goal.decreases-loop-mark
decreases-loop-mark l = length l.rest.text.now
