use Rattle.std.proofs.Common.{List, subst}
use Rattle.std.specs.Prelude.{IfErr}
use Rattle.std.specs.Option.{option_copied}
use Rattle.std.proofs.lemmas.Result.{on_ok_weaker}
use Rattle.bson_wire.proofs.WriteLemmas.{wrote-more}
use Rattle.cmd_build.specs.Batches.{Stopped, extra_fields, front_fields}
use Rattle.cmd_build.specs.Commands.{Field}
use Rattle.cmd_build.proofs.FaultLemmas.{end-stops, passed, stopped-front, stopped-rest}
use Rattle.cmd_build.proofs.WriteLemmas.{fields-are, fields-whole, wrote-first}
use Rattle.cmd_build.proofs.building.put_command.Goals as goal

pub returns-clause-wrote : goal.returns-clause-wrote
returns-clause-wrote c = on_ok_weaker c.end.result (λ ends.
    fields-whole c.args.command.now c.args.db.now c.args.extras.now _ c.args.writer.now c.end.new.self
    (wrote-first c.in_ok-start.ensures.begins (wrote-more c.in_ok-put_front.ensures.writes c.in_ok-put_extras.ensures.writes) ends)) c.end.ensures.ends

pub returns-clause-stops : goal.returns-clause-stops
returns-clause-stops c =
    subst (λ (es : List Field). IfErr c.end.result (Stopped es)) (fields-are c.args.command.now c.args.db.now c.args.extras.now (option_copied c.args.time))
    (end-stops _ c.end.result c.in_ok-start.ensures.begins.place (wrote-more c.in_ok-put_front.ensures.writes c.in_ok-put_extras.ensures.writes) c.end.ensures.long)

pub returns-in_err-put_front-clause-stops : goal.returns-in_err-put_front-clause-stops
returns-in_err-put_front-clause-stops c =
    let front = front_fields c.args.command.now c.args.db.now in
    let extra = extra_fields c.args.command.now.act c.args.extras.now (option_copied c.args.time) in
    passed _ c.from_residual-in_err-put_front.result c.from_residual-in_err-put_front.ensures.1
    (subst (λ (es : List Field). Stopped es c.in_err-put_front.field-0.0) (fields-are c.args.command.now c.args.db.now c.args.extras.now (option_copied c.args.time))
    (stopped-front front extra c.in_err-put_front.field-0.0 c.in_err-put_front.ensures.stops))

pub returns-in_err-put_extras-clause-stops : goal.returns-in_err-put_extras-clause-stops
returns-in_err-put_extras-clause-stops c =
    let front = front_fields c.args.command.now c.args.db.now in
    let extra = extra_fields c.args.command.now.act c.args.extras.now (option_copied c.args.time) in
    passed _ c.from_residual-in_err-put_extras.result c.from_residual-in_err-put_extras.ensures.1
    (subst (λ (es : List Field). Stopped es c.in_err-put_extras.field-0.0) (fields-are c.args.command.now c.args.db.now c.args.extras.now (option_copied c.args.time))
    (stopped-rest front extra c.in_err-put_extras.field-0.0 c.in_err-put_extras.ensures.stops))
