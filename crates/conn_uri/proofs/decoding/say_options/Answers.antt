use Rattle.std.proofs.Common.{ap, ◌∙◌}
use Rattle.conn_uri.specs.Each.{read_each}
use Rattle.conn_uri.specs.Reading.{said_in}
use Rattle.conn_uri.specs.Inside.{part_of}
use Rattle.conn_uri.proofs.EachLemmas.{read_each-map}
use Rattle.conn_uri.proofs.decoding.say_options.Goals as goal

pub returns : goal.returns
returns c other =
    c.say_each.ensures other
    ∙ ap (read_each (λ p. said_in (part_of p))) c.as_slice.ensures.value
    ∙ read_each-map said_in part_of c.in_ok-pieces.pieces.items
    ∙ ap (read_each said_in) c.in_ok-pieces.ensures
