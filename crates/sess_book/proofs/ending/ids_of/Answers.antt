use Rattle.std.proofs.lemmas.Option.{slice_get-get_or}
use Rattle.sess_book.proofs.EndingLemmas.{ids_more}
use Rattle.sess_book.proofs.ending.ids_of.Goals as goal

pub loop-k-preserved : goal.loop-k-preserved
loop-k-preserved c =
    ids_more c.args.made.now c.args.kept.now c.loop-k.k-index c.loop-k.ids c.put_id.new.ids _ c.in_ok-put_id.ensures c.loop-k.invariant
    (slice_get-get_or c.args.kept.now c.loop-k.k-index _ c.loop-k-test.true)
