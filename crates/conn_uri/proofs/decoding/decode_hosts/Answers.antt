use Rattle.std.proofs.Common.{ap, ◌∙◌}
use Rattle.conn_uri.specs.Each.{read_each}
use Rattle.conn_uri.specs.Escapes.{decoded}
use Rattle.conn_uri.specs.Inside.{part_of}
use Rattle.conn_uri.proofs.EachLemmas.{read_each-map}
use Rattle.conn_uri.proofs.decoding.decode_hosts.Goals as goal

pub returns : goal.returns
returns c other =
    c.decode_each.ensures other
    ∙ ap (read_each (λ p. decoded (part_of p))) c.as_slice.ensures.value
    ∙ read_each-map decoded part_of c.in_ok-pieces.pieces.items
    ∙ ap (read_each decoded) c.in_ok-pieces.ensures
