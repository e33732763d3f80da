use Rattle.std.proofs.Common.{◌≡◌, ◌+◌, length, ap, arith}
use Rattle.bson_wire.proofs.Lengths.{sum_one_on}
use Rattle.cmd_build.proofs.SizeLemmas.{length-tags_left}
use Rattle.cmd_build.proofs.sizes.size_of_tags.Goals as goal

pub loop-tag-preserved : goal.loop-tag-preserved
loop-tag-preserved c =
    let t = c.tag-item.result in
    let cut = length-tags_left c.args.tags.now c.loop-tag.tag-index t c.loop-tag-test.true c.tag-item.is in
    let names : length c.as_str-name.result.now ≡ length t.name = ap length c.as_str-name.ensures.value in
    let values : length c.as_str.result.now ≡ length t.value = ap length c.as_str.ensures.value in
    record {
      counted = sum_one_on _ _ _ _ _ _ _ (length c.as_str-name.result.now + length c.as_str.result.now + 7) c.loop-tag.invariant.counted (omega (arith, cut, names, values)) c.size_of_text.ensures c.saturating_add-total.ensures;
      fits = c.saturating_add-total.type_inv;
    }
