use Rattle.std.proofs.Common.{ℕ, ◌+◌, List, ◌++◌, length, drop, map, sym, ap, subst, ◌∙◌, arith}
use Rattle.std.proofs.lemmas.List.{length-append}
use Rattle.std.proofs.lemmas.Result.{err_from_is_err_and}
use Rattle.bson_doc.specs.declared.value.Value.TheVariants as value
use Rattle.bson_doc.specs.wire.Spelling.{IsName}
use Rattle.bson_doc.specs.wire.Spelled.{element, numbered, payload, spelled_elements}
use Rattle.bson_wire.specs.Written.{ElementSpells, PayloadSpells}
use Rattle.bson_wire.proofs.Payloads.{payload-Doc, payload-Array, payload-Scope}
use Rattle.bson_wire.proofs.Written.{OnOk-both, stops_more, doc_spells, array_spells, scope_spells, elements_left, items_left, writes_more, known_more, part-le}
use Rattle.bson_wire.proofs.writing.+writing.Goals as goal

pub put_array-returns-in_err-put_element-clause-long : goal.put_array-returns-in_err-put_element-clause-long
put_array-returns-in_err-put_element-clause-long t c =
    let p = err_from_is_err_and c.from_residual-in_err-put_element.result c.from_residual-in_err-put_element.ensures.1 in
    let i = c.loop-place.place in
    let v = c.index-items-place.result in
    let text = element c.format.result.now (payload v) in
    let after = numbered (i + 1) (map payload (drop (i + 1) c.args.items.now)) in
    let cut = items_left c.args.items.now i v (omega arith) c.index-items-place.is ∙ ap (λ (name : List ℕ). element name (payload v) ++ after) (sym c.format.ensures.text) in
    rw (p.1, p.2) (stops_more (length text) _ c.in_err-put_element.field-0.0 (part-le c.args.out.now.items c.loop-place.out.items text _ after _ (omega arith) cut c.loop-place.invariant.written) c.in_err-put_element.ensures.long)

pub put_array-loop-place-preserved : goal.put_array-loop-place-preserved
put_array-loop-place-preserved t c =
    let i = c.loop-place.place in
    let v = c.index-items-place.result in
    let text = element c.format.result.now (payload v) in
    let after = numbered (i + 1) (map payload (drop (i + 1) c.args.items.now)) in
    let cut = items_left c.args.items.now i v (omega arith) c.index-items-place.is ∙ ap (λ (name : List ℕ). element name (payload v) ++ after) (sym c.format.ensures.text) in
    record {
      start = c.loop-place.invariant.start;
      behind = omega (arith, ap length c.in_ok-put_element.ensures.ok, length-append c.loop-place.out.items text);
      written = writes_more c.loop-place.out.items c.put_element.new.out.items text _ after _ c.in_ok-put_element.ensures.ok cut c.loop-place.invariant.written;
      known = λ others. c.loop-place.invariant.known (known_more PayloadSpells c.args.items.now i v (omega arith) c.index-items-place.is c.in_ok-put_element.ensures.known others);
    }

pub put_document-returns-in_err-put_element-clause-long : goal.put_document-returns-in_err-put_element-clause-long
put_document-returns-in_err-put_element-clause-long t c =
    let p = err_from_is_err_and c.from_residual-in_err-put_element.result c.from_residual-in_err-put_element.ensures.1 in
    let es = c.as_slice-name-items.result.now in
    let i = c.loop-name.name-index in
    let e = c.loop-name-item.result in
    let text = element c.as_str.result.now (payload e.1) in
    let after = spelled_elements (drop (i + 1) es) in
    let cut = elements_left es i e c.loop-name-test.true c.loop-name-item.is ∙ ap (λ (name : List ℕ). element name (payload e.1) ++ after) (sym c.as_str.ensures.value) in
    rw (p.1, p.2, ← c.as_slice-name-items.ensures.value) (stops_more (length text) _ c.in_err-put_element.field-0.0 (part-le c.args.out.now.items c.loop-name.out.items text _ after _ (omega arith) cut c.loop-name.invariant.written) c.in_err-put_element.ensures.long)

pub put_document-loop-name-preserved : goal.put_document-loop-name-preserved
put_document-loop-name-preserved t c =
    let es = c.as_slice-name-items.result.now in
    let i = c.loop-name.name-index in
    let e = c.loop-name-item.result in
    let text = element c.as_str.result.now (payload e.1) in
    let after = spelled_elements (drop (i + 1) es) in
    let cut = elements_left es i e c.loop-name-test.true c.loop-name-item.is ∙ ap (λ (name : List ℕ). element name (payload e.1) ++ after) (sym c.as_str.ensures.value) in
    let name : IsName c.as_str.result.now = record { no_zero = c.as_str.ensures.no_zero; utf8 = c.as_str.ensures.utf8 } in
    record {
      start = c.loop-name.invariant.start;
      behind = omega (arith, ap length c.in_ok-put_element.ensures.ok, length-append c.loop-name.out.items text);
      written = writes_more c.loop-name.out.items c.put_element.new.out.items text _ after _ c.in_ok-put_element.ensures.ok cut c.loop-name.invariant.written;
      known = λ others. c.loop-name.invariant.known (known_more ElementSpells es i e c.loop-name-test.true c.loop-name-item.is (subst IsName c.as_str.ensures.value name, c.in_ok-put_element.ensures.known) others);
    }

pub put_value-returns-in-Doc-clause-ok : goal.put_value-returns-in-Doc-clause-ok
put_value-returns-in-Doc-clause-ok t c = rw (payload-Doc c.args.value.now _ c.in-Doc.is) c.put_document.ensures.ok

pub put_value-returns-in-Doc-clause-long : goal.put_value-returns-in-Doc-clause-long
put_value-returns-in-Doc-clause-long t c = rw (payload-Doc c.args.value.now _ c.in-Doc.is) c.put_document.ensures.long

pub put_value-returns-in-Doc-clause-known : goal.put_value-returns-in-Doc-clause-known
put_value-returns-in-Doc-clause-known t c = OnOk-both c.put_document.result (λ known small. doc_spells c.args.value.now _ c.in-Doc.is known small) c.put_document.ensures.known c.put_document.ensures.size

pub put_value-returns-in-Array-clause-ok : goal.put_value-returns-in-Array-clause-ok
put_value-returns-in-Array-clause-ok t c = rw (payload-Array c.args.value.now _ c.in-Array.is, ← c.as_slice.ensures.value) c.put_array.ensures.ok

pub put_value-returns-in-Array-clause-long : goal.put_value-returns-in-Array-clause-long
put_value-returns-in-Array-clause-long t c = rw (payload-Array c.args.value.now _ c.in-Array.is, ← c.as_slice.ensures.value) c.put_array.ensures.long

pub put_value-returns-in-Array-clause-known : goal.put_value-returns-in-Array-clause-known
put_value-returns-in-Array-clause-known t c =
    let is = c.in-Array.is ∙ ap value.Array (sym c.as_slice.ensures.value) in
    OnOk-both c.put_array.result (λ known small. array_spells c.args.value.now c.as_slice.result.now is known small) c.put_array.ensures.known c.put_array.ensures.size

pub put_value-returns-in-Scope-clause-ok : goal.put_value-returns-in-Scope-clause-ok
put_value-returns-in-Scope-clause-ok t c = rw (payload-Scope c.args.value.now _ _ c.in-Scope.is, ← c.as_str.ensures.value) c.put_scope.ensures.ok

pub put_value-returns-in-Scope-clause-long : goal.put_value-returns-in-Scope-clause-long
put_value-returns-in-Scope-clause-long t c = rw (payload-Scope c.args.value.now _ _ c.in-Scope.is, ← c.as_str.ensures.value) c.put_scope.ensures.long

pub put_value-returns-in-Scope-clause-known : goal.put_value-returns-in-Scope-clause-known
put_value-returns-in-Scope-clause-known t c =
    let is = c.in-Scope.is ∙ ap (λ (code : List ℕ). value.Scope code c.in-Scope.scope) (sym c.as_str.ensures.value) in
    OnOk-both c.put_scope.result (λ known small. scope_spells c.args.value.now c.as_str.result.now c.in-Scope.scope is c.as_str.ensures.utf8 known small) c.put_scope.ensures.known c.put_scope.ensures.size
