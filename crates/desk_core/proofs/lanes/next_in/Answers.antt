use Rattle.std.proofs.Common.{refl, sym, ap, ◌∙◌, arith}
use Rattle.std.specs.Prelude.{slice_get}
use Rattle.std.proofs.lemmas.Option.{slice_get_read, slice_get_within}
use Rattle.desk_core.proofs.LaneLemmas.{AreAnswered-next}
use Rattle.desk_core.proofs.lanes.next_in.Goals as goal

pub returns-then-is_open : goal.returns-then-is_open
returns-then-is_open c = λ client w cs ws.
    let command = slice_get_read c.args.commands.now _ c.seeking.place c.index-commands-place.result refl (omega arith) c.index-commands-place.is in
    let operation = slice_get_read c.args.operations.now _ c.seeking.place c.index-operations-place.result refl (omega arith) c.index-operations-place.is in
    record {
      of_lane = record {
        command = c.index-commands-place.result;
        given = ap (λ xs. slice_get xs c.seeking.place) cs ∙ command;
        lane_is = c.is_open.ensures.lane c.if-is_open.true;
        running = c.index-operations-place.result;
        there = ap (λ xs. slice_get xs c.seeking.place) ws ∙ operation;
      };
      waits = c.is_open.ensures.waits c.if-is_open.true;
      ahead = λ k l less.
          c.seeking.invariant.1 k l.command l.running less (ap (λ xs. slice_get xs k) (sym cs) ∙ l.given) (ap (λ xs. slice_get xs k) (sym ws) ∙ l.there) l.lane_is;
    }

pub seeking-preserved : goal.seeking-preserved
seeking-preserved c =
    let command = slice_get_read c.args.commands.now _ c.seeking.place c.index-commands-place.result refl (omega arith) c.index-commands-place.is in
    let operation = slice_get_read c.args.operations.now _ c.seeking.place c.index-operations-place.result refl (omega arith) c.index-operations-place.is in (
      omega arith,
      AreAnswered-next c.args.commands.now c.args.operations.now c.args.lane c.seeking.place c.index-commands-place.result c.index-operations-place.result command operation
          (c.is_open.ensures.no c.if-is_open.false) c.seeking.invariant.1,
    )

pub returns : goal.returns
returns c = λ client w cs ws k l.
    let given = ap (λ xs. slice_get xs k) (sym cs) ∙ l.given in
    let within = slice_get_within c.args.commands.now k l.command given in
    c.seeking.invariant.1 k l.command l.running (omega arith) given (ap (λ xs. slice_get xs k) (sym ws) ∙ l.there) l.lane_is
