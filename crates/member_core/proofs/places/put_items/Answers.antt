use Rattle.std.proofs.Common.{◌++◌, ◌∙◌, List, ap, drop, subst, sym, take}
use Rattle.std.specs.Prelude.{slice_get}
use Rattle.member_core.specs.Places.{HasPlaces}
use Rattle.member_core.specs.declared.log.LogEntry.{LogEntry}
use Rattle.member_core.proofs.IndexLemmas.{Puts, put-has, restored, still_known}
use Rattle.member_core.proofs.ShareLemmas.{tail-of}
use Rattle.member_core.proofs.places.put_items.Goals as goal

pub restore_places-requires-clause-known : goal.restore_places-requires-clause-known
restore_places-requires-clause-known c = λ i entry at.
    let is = c.as_slice.ensures.value ∙ c.reserve.ensures.items in
    still_known c.args.places.now c.put_places.new.places c.args.from c.in-Err.ensures.err.0 c.args.items.now.items c.args.entries.now c.requires.places c.requires.from c.in-Err.ensures.err.1 i entry
    (ap (λ l. slice_get l i) (sym (tail-of c.as_slice.result.now c.args.items.now.items c.args.from is)) ∙ at)

pub returns-in-Ok-clause-places : goal.returns-in-Ok-clause-places
returns-in-Ok-clause-places c =
    subst (HasPlaces c.put_places.new.places) (sym c.put_tail.ensures)
    (subst (λ (l : List LogEntry). HasPlaces c.put_places.new.places (take c.args.from l ++ c.args.entries.now)) (sym c.reserve.ensures.items)
    (put-has c.args.places.now c.put_places.new.places c.args.from c.args.items.now.items c.args.entries.now c.requires.places c.requires.from c.requires.once c.in-Ok.ensures.ok))

pub returns-in-Err-clause-places : goal.returns-in-Err-clause-places
returns-in-Err-clause-places c =
    let is = c.as_slice.ensures.value ∙ c.reserve.ensures.items in
    let again : Puts c.put_places.new.places c.restore_places.new.places c.args.from (drop c.args.from c.args.items.now.items) =
    subst (Puts c.put_places.new.places c.restore_places.new.places c.args.from) (tail-of c.as_slice.result.now c.args.items.now.items c.args.from is) c.restore_places.ensures in
    subst (HasPlaces c.restore_places.new.places) (sym c.reserve.ensures.items)
    (restored c.args.places.now c.put_places.new.places c.restore_places.new.places c.args.from c.in-Err.ensures.err.0 c.args.items.now.items c.args.entries.now c.requires.places c.requires.from c.requires.once c.in-Err.ensures.err.1 again)
