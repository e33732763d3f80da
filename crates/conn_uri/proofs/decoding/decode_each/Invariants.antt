use Rattle.std.proofs.Common.{◌≡◌, drop}
use Rattle.conn_uri.proofs.EachLemmas.{joined}
use Rattle.conn_uri.specs.Each.{read_each}
use Rattle.conn_uri.specs.Escapes.{decoded}
use Rattle.conn_uri.specs.Inside.{part_of}
use Rattle.conn_uri.proofs.decoding.decode_each.Given as goal

abbrev pub invariant-loop-piece : goal.invariant-loop-piece
invariant-loop-piece l =
    joined l.texts (read_each (λ p. decoded (part_of p)) (drop l.piece-index l.pieces)) ≡ read_each (λ p. decoded (part_of p)) l.pieces
