use Rattle.std.proofs.Common.{◌∙◌, ap, get_or, sym, take}
use Rattle.std.proofs.lemmas.Bool.{false≢true}
use Rattle.std.proofs.lemmas.Option.{slice_get-get_or}
use Rattle.std.specs.Option.{is_some}
use Rattle.member_core.proofs.IndexLemmas.{placed-some, puts-more}
use Rattle.member_core.proofs.PlaceLemmas.{some_entry}
use Rattle.member_core.specs.Places.{key_cmp}
use Rattle.std.specs.BTreeMap.{get}
use Rattle.member_core.proofs.places.put_places.Goals as goal

pub putting-preserved : goal.putting-preserved
putting-preserved c =
    puts-more c.args.places.now c.putting.places c.insert.new.self c.args.from c.args.entries.now c.putting.index some_entry c.putting-test.true c.putting.invariant c.in-Ok.ensures.updates.0

pub returns-in-Err-clause-known : goal.returns-in-Err-clause-known
returns-in-Err-clause-known c =
    λ known.
    let key = (get_or c.args.entries.now c.putting.index some_entry).key in
    let was = known c.putting.index (get_or c.args.entries.now c.putting.index some_entry) (slice_get-get_or c.args.entries.now c.putting.index some_entry c.putting-test.true) in
    let some = placed-some c.args.from (take c.putting.index c.args.entries.now) key (get key_cmp c.args.places.now key) was in
    absurd (false≢true (sym (ap is_some (sym (c.putting.invariant key) ∙ c.in-Err.ensures.absent)) ∙ some))
