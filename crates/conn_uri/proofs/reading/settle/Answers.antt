use Rattle.std.proofs.Common.{◌≡◌, false, sym, ◌∙◌, subst}
use Rattle.std.specs.Prelude.{Ok}
use Rattle.std.specs.List.{list_any}
use Rattle.conn_uri.specs.Inside.{IsWithin}
use Rattle.conn_uri.specs.Seeds.{is_path, seeds_in}
use Rattle.conn_uri.proofs.ChoiceLemmas.{chosen-within}
use Rattle.conn_uri.proofs.EachLemmas.{ok_is_read}
use Rattle.conn_uri.proofs.ReadingLemmas.{none_left-ok, seeds_in-seeds}
use Rattle.conn_uri.proofs.reading.settle.Goals as goal

pub agree-requires-clause-seeds : goal.agree-requires-clause-seeds
agree-requires-clause-seeds c =
    let left = none_left-ok c.as_slice-3.result.now c.in_ok-chosen.chosen c.in-Ok-refuse_left.chosen (ok_is_read _ _ _ _ c.refuse_left.ensures c.in-Ok-refuse_left.is) in
    let no_path = subst (λ hs. list_any is_path hs ≡ false) c.as_slice-3.ensures.value left.0 in
    let read = subst (λ hs. seeds_in hs ≡ Ok c.in-Ok.seeds) c.as_slice.ensures.value (ok_is_read _ _ _ _ c.seeds.ensures c.in-Ok.is) in
    seeds_in-seeds c.args.decoded.hosts c.in-Ok.seeds c.requires.some c.requires.most no_path read

pub agree-requires-clause-within : goal.agree-requires-clause-within
agree-requires-clause-within c =
    let left = none_left-ok c.as_slice-3.result.now c.in_ok-chosen.chosen c.in-Ok-refuse_left.chosen (ok_is_read _ _ _ _ c.refuse_left.ensures c.in-Ok-refuse_left.is) in
    subst IsWithin (sym c.in_ok-chosen.ensures ∙ left.1) (chosen-within c.as_slice-2.result.now)
