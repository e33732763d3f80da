use Rattle.std.proofs.Common.{◌≡◌, ◌+◌, ap, arith, length, map, decimal}
use Rattle.std.proofs.lemmas.List.{at_drop_all}
use Rattle.bson_doc.specs.wire.Spelled.{numbered, payload, spelled, spelled_elements, string}
use Rattle.bson_wire.proofs.Payloads.{payload-Doc, payload-Array, payload-Scope}
use Rattle.bson_wire.proofs.Written.{length-document}
use Rattle.bson_wire.proofs.Lengths.{length-scope, length-elements_left, length-items_left, sum_one_on}
use Rattle.bson_wire.proofs.sizes.+size.Goals as goal

pub size_of_elements-returns : goal.size_of_elements-returns
size_of_elements-returns t c = omega (arith, at_drop_all (λ es. length (spelled_elements es)) c.args.elements.now c.loop-name.name-index (omega arith))

pub size_of_items-returns : goal.size_of_items-returns
size_of_items-returns t c =
    omega (arith, at_drop_all (λ vs. length (numbered c.loop-place.place (map payload vs))) c.args.items.now c.loop-place.place (omega arith))

pub size_of_value-returns-in-Doc : goal.size_of_value-returns-in-Doc
size_of_value-returns-in-Doc t c = rw (payload-Doc _ _ c.in-Doc.is) c.size.ensures.size

pub size_of_value-returns-in-Array : goal.size_of_value-returns-in-Array
size_of_value-returns-in-Array t c = rw (payload-Array _ _ c.in-Array.is, ← c.as_slice.ensures.value)
    (omega (arith, length-document (numbered 0 (map payload c.as_slice.result.now))))

pub size_of_value-returns-in-Scope : goal.size_of_value-returns-in-Scope
size_of_value-returns-in-Scope t c = rw (payload-Scope _ _ _ c.in-Scope.is, ← c.as_str.ensures.value)
    (omega (arith, length-scope (string c.as_str.result.now) (spelled c.in-Scope.scope)))

pub size_of_elements-loop-name-preserved : goal.size_of_elements-loop-name-preserved
size_of_elements-loop-name-preserved t c =
    let e = c.loop-name-item.result in
    let cut = length-elements_left c.args.elements.now c.loop-name.name-index e c.loop-name-test.true c.loop-name-item.is in
    let same : length c.as_str.result.now ≡ length e.0 = ap length c.as_str.ensures.value in
    record {
      counted = sum_one_on _ _ _ _ _ _ _ (length c.as_str.result.now + length (payload e.1).1 + 2) c.loop-name.invariant.counted (omega (arith, cut, same)) c.size_of_element.ensures c.saturating_add-total.ensures;
      fits = c.saturating_add-total.type_inv;
    }

pub size_of_items-loop-place-preserved : goal.size_of_items-loop-place-preserved
size_of_items-loop-place-preserved t c =
    let v = c.index-items-place.result in
    let cut = length-items_left c.args.items.now c.loop-place.place v (omega arith) c.index-items-place.is in
    let same : length c.format.result.now ≡ length (decimal c.loop-place.place) = ap length c.format.ensures.text in
    record {
      counted = sum_one_on _ _ _ _ _ _ _ (length c.format.result.now + length (payload v).1 + 2) c.loop-place.invariant.counted (omega (arith, cut, same)) c.size_of_element.ensures c.saturating_add-total.ensures;
      fits = c.saturating_add-total.type_inv;
    }
