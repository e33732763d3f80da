use Rattle.std.proofs.Common.{◌≡◌, drop}
use Rattle.conn_uri.proofs.EachLemmas.{behind}
use Rattle.conn_uri.specs.Each.{each_or_none}
use Rattle.conn_uri.specs.Inside.{part_of}
use Rattle.conn_uri.specs.Values.{tag_in}
use Rattle.conn_uri.proofs.values.tags_among.Given as goal

abbrev pub invariant-loop-piece : goal.invariant-loop-piece
invariant-loop-piece l =
    behind l.tags (each_or_none (λ p. tag_in (part_of p).text) (drop l.piece-index l.pieces)) ≡ each_or_none (λ p. tag_in (part_of p).text) l.pieces
