use Rattle.std.proofs.Common.{◌≡◌, ◌<◌, length, arith}
use Rattle.std.proofs.lemmas.Bool.Decides.{nat_tests}
use Rattle.std.proofs.lemmas.Result.{err_from_is_err_and}
use Rattle.bson_doc.proofs.Steps.{bind-Ok}
use Rattle.msg_wire.proofs.DocumentLists.{goes_on, stops, is_done}
use Rattle.msg_wire.proofs.documents.documents_of.Goals as goal

pub loop-rest-init : goal.loop-rest-init
loop-rest-init c = record {
  within = c.requires;
  goes_on = λ fuel lt. (fuel, lt, rw c.new-docs.ensures.empty (bind-Ok _));
}

pub returns-in_err-document : goal.returns-in_err-document
returns-in_err-document c =
    let p = err_from_is_err_and c.from_residual.result c.from_residual.ensures.1 in
    let rest = c.loop-rest.rest.now in
    let some : 0 < length rest = grind (arith, nat_tests, c.is_empty.ensures, c.loop-rest-test.true) in
    let fails = rw c.place.ensures at c.in_err-document.ensures.gives in
    λ fuel lt. rw (p.1, p.2) (stops c.args.end c.loop-rest.docs rest c.in_err-document.field-0.0 _ some fails (c.loop-rest.invariant.goes_on fuel lt))

pub loop-rest-preserved : goal.loop-rest-preserved
loop-rest-preserved c =
    let rest = c.loop-rest.rest.now in
    let after = c.in_ok-document.after.now in
    let less : length after < length rest = omega (arith, c.in_ok-document.ensures.rest) in
    let read = rw c.place.ensures at c.in_ok-document.ensures.gives in
    record {
      within = omega (arith, c.loop-rest.invariant.within, less);
      goes_on = λ fuel lt. rw c.in_ok-push.ensures.ok (goes_on c.args.end c.loop-rest.docs rest after c.in_ok-document.document _ read less (c.loop-rest.invariant.goes_on fuel lt));
    }

pub returns : goal.returns
returns c =
    let none : length c.loop-rest.rest.now ≡ 0 = grind (arith, nat_tests, c.is_empty.ensures, c.loop-rest-test.false) in
    λ fuel lt. is_done c.args.end c.loop-rest.docs c.loop-rest.rest.now _ none (c.loop-rest.invariant.goes_on fuel lt)
