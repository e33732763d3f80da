use Rattle.std.proofs.Common.{◌≡◌, ◌+◌, List, length, map, decimal, ap, arith}
use Rattle.bson_wire.proofs.Lengths.{sum_one_on}
use Rattle.read_pref.specs.declared.tag.Tag.{Tag}
use Rattle.cmd_build.specs.Commands.{tag_field}
use Rattle.cmd_build.proofs.SizeLemmas.{fields_length, length-sets_left}
use Rattle.cmd_build.proofs.sizes.size_of_items.Goals as goal

pub loop-place-preserved : goal.loop-place-preserved
loop-place-preserved c =
    let set = c.index-sets-place.result in
    let cut = length-sets_left c.args.sets.now c.loop-place.place set (omega arith) c.index-sets-place.is in
    let digits : length c.format.result.now ≡ length (decimal c.loop-place.place) = ap length c.format.ensures.text in
    let tags : fields_length (map tag_field c.as_slice.result.now) ≡ fields_length (map tag_field set) = ap (λ (ts : List Tag). fields_length (map tag_field ts)) c.as_slice.ensures.value in
    record {
      counted = sum_one_on _ _ _ _ _ _ _ (length c.format.result.now + fields_length (map tag_field c.as_slice.result.now) + 7) c.loop-place.invariant.counted (omega (arith, cut, digits, tags)) (omega (arith, c.size_of_tags.ensures, c.saturating_add-inside.ensures, c.element.ensures)) c.saturating_add-total.ensures;
      fits = c.saturating_add-total.type_inv;
    }
