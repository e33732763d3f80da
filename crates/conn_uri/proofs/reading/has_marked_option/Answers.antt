use Rattle.std.proofs.Common.{ap, ◌∙◌}
use Rattle.std.specs.List.{list_any}
use Rattle.host_name.specs.Grammar.{is_in}
use Rattle.conn_uri.specs.Grammar.{name_part}
use Rattle.conn_uri.specs.Inside.{part_of}
use Rattle.conn_uri.proofs.EachLemmas.{list_any-map}
use Rattle.conn_uri.proofs.reading.has_marked_option.Goals as goal

pub returns : goal.returns
returns c =
    c.has_marked_name.ensures
    ∙ ap (list_any (λ p. is_in 64 (name_part (part_of p)).text)) c.as_slice.ensures.value
    ∙ list_any-map (λ p. is_in 64 (name_part p).text) part_of c.in_ok-options.options.items
    ∙ ap (list_any (λ p. is_in 64 (name_part p).text)) c.in_ok-options.ensures
