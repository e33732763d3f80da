use Rattle.std.proofs.Common.{ap, ◌∙◌}
use Rattle.conn_uri.specs.Each.{each_or_none}
use Rattle.conn_uri.specs.Grammar.{Part}
use Rattle.conn_uri.specs.Inside.{part_of}
use Rattle.conn_uri.specs.Values.{tag_in}
use Rattle.conn_uri.proofs.EachLemmas.{each_or_none-map}
use Rattle.conn_uri.proofs.values.tags_between.Goals as goal

pub returns : goal.returns
returns c =
    c.in_ok-tags.ensures
    ∙ ap (each_or_none (λ p. tag_in (part_of p).text)) c.as_slice.ensures.value
    ∙ each_or_none-map (λ (p : Part). tag_in p.text) part_of c.in_ok-pieces.pieces.items
    ∙ ap (each_or_none (λ (p : Part). tag_in p.text)) c.in_ok-pieces.ensures
