use Rattle.std.proofs.Common.{refl, arith}
use Rattle.std.proofs.lemmas.Result.{err_from_is_err_and}
use Rattle.bson_doc.specs.wire.Spelling.{values}
use Rattle.bson_doc.specs.wire.Reading.{document_at}
use Rattle.bson_doc.proofs.Steps.{bind-Ok}
use Rattle.bson_wire.proofs.Loop.{elements_view, values_view, goes_on, stops, stops_item, is_done, goes_on_item, unnamed_body-elements, unnamed_body-end, unnamed_body-Ok}
use Rattle.bson_wire.proofs.reading.+reading.Goals as goal

pub elements_of-loop-rest-init : goal.elements_of-loop-rest-init
elements_of-loop-rest-init t c = record {
  within = c.requires.within;
  goes_on = λ fuel le. (fuel, le, rw c.new-elements.ensures.empty (bind-Ok _));
}

pub elements_of-returns-in_err-element : goal.elements_of-returns-in_err-element
elements_of-returns-in_err-element t c =
    let p = err_from_is_err_and c.from_residual.result c.from_residual.ensures.1 in
    λ fuel le. rw (p.1, p.2) (stops (λ es. es) (document_at c.args.levels) c.args.span.start c.args.span.end c.loop-rest.elements c.loop-rest.rest.now c.in_err-element.field-0.0 _ c.in-len1-up.len_at_least c.in_err-element.ensures.gives (c.loop-rest.invariant.goes_on fuel le))

pub elements_of-loop-rest-preserved : goal.elements_of-loop-rest-preserved
elements_of-loop-rest-preserved t c = record {
  within = omega (arith, c.in_ok-element.ensures.rest);
  goes_on = λ fuel le. rw c.in_ok-push.ensures.ok (goes_on (λ es. es) (λ e. e) elements_view (document_at c.args.levels) c.args.span.start c.args.span.end c.loop-rest.elements c.loop-rest.rest.now c.in_ok-element.after.now c.in_ok-element.element _ c.in-len1-up.len_at_least c.in_ok-element.ensures.gives c.in_ok-element.ensures.rest (c.loop-rest.invariant.goes_on fuel le));
}

pub elements_of-returns : goal.elements_of-returns
elements_of-returns t c = λ fuel le. is_done (λ es. es) (λ e. e) elements_view (document_at c.args.levels) c.args.span.start c.args.span.end c.loop-rest.elements c.loop-rest.rest.now _ c.in_default.len_below (c.loop-rest.invariant.goes_on fuel le)

pub items_of-loop-rest-init : goal.items_of-loop-rest-init
items_of-loop-rest-init t c = record {
  within = c.requires.within;
  goes_on = λ fuel le. (fuel, le, rw c.new-items.ensures.empty refl);
}

pub items_of-returns-in_err-value : goal.items_of-returns-in_err-value
items_of-returns-in_err-value t c =
    let p = err_from_is_err_and c.from_residual.result c.from_residual.ensures.1 in
    λ fuel le. rw (p.1, p.2) (stops_item (document_at c.args.levels) c.args.span.start c.args.span.end c.loop-rest.items c.loop-rest.rest.now c.in_err-value.field-0.0 _ c.in-len1-up.len_at_least c.in_err-value.ensures.gives (c.loop-rest.invariant.goes_on fuel le))

pub items_of-loop-rest-preserved : goal.items_of-loop-rest-preserved
items_of-loop-rest-preserved t c =
    let R = document_at c.args.levels in
    let rest = c.loop-rest.rest.now in
    record {
      within = omega (arith, c.in_ok-value.ensures.rest);
      goes_on = λ fuel le. rw c.in_ok-push.ensures.ok (goes_on_item R c.args.span.start c.args.span.end c.loop-rest.items rest c.in_ok-value.after.now c.in_ok-value.value _ c.in-len1-up.len_at_least c.in_ok-value.ensures.gives c.in_ok-value.ensures.rest (c.loop-rest.invariant.goes_on fuel le));
    }

pub items_of-returns : goal.items_of-returns
items_of-returns t c = λ fuel le. is_done values (λ e. e.1) values_view (document_at c.args.levels) c.args.span.start c.args.span.end c.loop-rest.items c.loop-rest.rest.now _ c.in_default.len_below (c.loop-rest.invariant.goes_on fuel le)

pub array_body_of-returns-in_err-items-clause-gives : goal.array_body_of-returns-in_err-items-clause-gives
array_body_of-returns-in_err-items-clause-gives t c =
    let p = err_from_is_err_and c.from_residual.result c.from_residual.ensures.1 in
    let h = rw (c.of.ensures.start, c.of.ensures.end, c.split_body.ensures.elements) at (c.in_err-items.ensures c.args.total (omega (arith, c.split_body.ensures.count))) in
    rw (p.1, p.2) (unnamed_body-elements (document_at c.args.levels) c.args.start c.args.total c.args.bytes.now c.in_err-items.field-0.0 h)

pub array_body_of-returns-in_err-rest-clause-gives : goal.array_body_of-returns-in_err-rest-clause-gives
array_body_of-returns-in_err-rest-clause-gives t c =
    let p = err_from_is_err_and c.from_residual-in_err-rest.result c.from_residual-in_err-rest.ensures.1 in
    let h = rw (c.of.ensures.start, c.of.ensures.end, c.split_body.ensures.elements) at (c.in_ok-items.ensures c.args.total (omega (arith, c.split_body.ensures.count))) in
    let no_end = rw c.split_body.ensures.last at c.in_err-rest.ensures.gives in
    rw (p.1, p.2) (unnamed_body-end (document_at c.args.levels) c.args.start c.args.total c.args.bytes.now c.in_ok-items.items c.in_err-rest.field-0.0 h no_end)

pub array_body_of-returns-clause-gives : goal.array_body_of-returns-clause-gives
array_body_of-returns-clause-gives t c =
    let h = rw (c.of.ensures.start, c.of.ensures.end, c.split_body.ensures.elements) at (c.in_ok-items.ensures c.args.total (omega (arith, c.split_body.ensures.count))) in
    let at_end = rw c.split_body.ensures.last at c.in_ok-rest.ensures.gives in
    unnamed_body-Ok (document_at c.args.levels) c.args.start c.args.total c.args.bytes.now c.in_ok-items.items c.in_ok-rest.rest.now h at_end
