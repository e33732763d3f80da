use Rattle.std.proofs.Common.{◌<◌, ◌^◌, ◌∙◌, arith, length}
use Rattle.effect_count.proofs.IndexLemmas.{counts-next, counts-room}
use Rattle.effect_count.proofs.index.RequestIndex.counts.Goals as goal

pub count_entry-requires : goal.count_entry-requires
count_entry-requires c =
    let few : length c.args.log.now < 2 ^ 64 = omega arith in
    record { room = counts-room c.args.self.now c.args.log.now c.counting.entry-index c.counting.counts.items c.counting-test.true few c.counting.invariant.1 }

pub counting-preserved : goal.counting-preserved
counting-preserved c =
    let next = counts-next c.args.self.now c.args.log.now c.counting.entry-index _ c.counting.counts.items c.count_entry.new.counts.items c.counting-test.true
    c.count_entry.ensures.none c.count_entry.ensures.one c.counting.invariant.1 in
    (next.0 ∙ c.counting.invariant.0, next.1)
