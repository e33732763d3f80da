use Rattle.std.proofs.Common.{◌<◌, length, arith}
use Rattle.std.proofs.lemmas.Result.{err_from_is_err_and}
use Rattle.msg_wire.proofs.SectionLoop.{begins, goes_on_body, goes_on_kind1, stops, closes, does_not_close}
use Rattle.msg_wire.proofs.sections.sections_of.Goals as goal

pub loop-rest-init : goal.loop-rest-init
loop-rest-init c = record {
  within = c.requires;
  goes_on = λ fuel lt. rw c.new-sequences.ensures.empty (begins c.args.spare c.args.end fuel c.args.bytes.now lt);
}

pub returns-in_err-section : goal.returns-in_err-section
returns-in_err-section c =
    let p = err_from_is_err_and c.from_residual.result c.from_residual.ensures.1 in
    let fails = rw c.is_some.ensures at c.in_err-section.ensures.gives in
    λ fuel lt. rw (p.1, p.2) (stops c.args.spare c.args.end c.loop-rest.body c.loop-rest.sequences c.loop-rest.rest.now c.in_err-section.field-0.0 _ c.loop-rest-test.true fails (c.loop-rest.invariant.goes_on fuel lt))

pub loop-rest-preserved-in-Body : goal.loop-rest-preserved-in-Body
loop-rest-preserved-in-Body c =
    let rest = c.loop-rest.rest.now in
    let after = c.in_ok-section.after.now in
    let less : length after < length rest = c.in_ok-section.ensures.rest in
    let read = rw (c.is_some.ensures, c.in-Body.is) at c.in_ok-section.ensures.gives in
    record {
      within = omega (arith, c.loop-rest.invariant.within, less);
      goes_on = λ fuel lt. goes_on_body c.args.spare c.args.end c.loop-rest.body c.loop-rest.sequences rest after c.in-Body.document _ c.loop-rest-test.true read less (c.loop-rest.invariant.goes_on fuel lt);
    }

pub loop-rest-preserved : goal.loop-rest-preserved
loop-rest-preserved c =
    let rest = c.loop-rest.rest.now in
    let after = c.in_ok-section.after.now in
    let less : length after < length rest = c.in_ok-section.ensures.rest in
    let read = rw (c.is_some.ensures, c.in-Sequence.is) at c.in_ok-section.ensures.gives in
    record {
      within = omega (arith, c.loop-rest.invariant.within, less);
      goes_on = λ fuel lt. rw c.in_ok-push-in-Sequence.ensures.ok (goes_on_kind1 c.args.spare c.args.end c.loop-rest.body c.loop-rest.sequences rest after c.in-Sequence.sequence _ c.loop-rest-test.true read less (c.loop-rest.invariant.goes_on fuel lt));
    }

pub returns-in_err-body : goal.returns-in_err-body
returns-in_err-body c =
    let p = err_from_is_err_and c.from_residual-in_err-body.result c.from_residual-in_err-body.ensures.1 in
    λ fuel lt. rw (p.1, p.2) (does_not_close c.args.spare c.args.end c.loop-rest.body c.loop-rest.sequences c.loop-rest.rest.now c.in_err-body.field-0.0 _ c.loop-rest-test.false c.in_err-body.ensures (c.loop-rest.invariant.goes_on fuel lt))

pub returns : goal.returns
returns c =
    λ fuel lt. closes c.args.spare c.args.end c.loop-rest.body c.loop-rest.sequences c.loop-rest.rest.now c.in_ok-body.body _ c.loop-rest-test.false c.in_ok-body.ensures (c.loop-rest.invariant.goes_on fuel lt)
