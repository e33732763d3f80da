use Rattle.std.proofs.Common.{◌≡◌, drop}
use Rattle.std.specs.List.{list_any}
use Rattle.host_name.specs.Grammar.{is_in}
use Rattle.conn_uri.specs.Grammar.{name_part}
use Rattle.conn_uri.specs.Inside.{part_of}
use Rattle.conn_uri.proofs.reading.has_marked_name.Given as goal

abbrev pub invariant-loop-option : goal.invariant-loop-option
invariant-loop-option l =
    list_any (λ p. is_in 64 (name_part (part_of p)).text) (drop l.option-index l.options) ≡ list_any (λ p. is_in 64 (name_part (part_of p)).text) l.options
