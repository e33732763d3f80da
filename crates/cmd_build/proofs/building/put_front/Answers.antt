use Rattle.std.proofs.Common.{[], ◌∷◌, ◌++◌, codes}
use Rattle.std.proofs.lemmas.Result.{on_ok_weaker}
use Rattle.bson_doc.specs.declared.value.Value.TheVariants as value
use Rattle.bson_wire.proofs.WriteLemmas.{wrote-more}
use Rattle.cmd_build.specs.Commands.{act_fields, concern_of, db_of, given}
use Rattle.cmd_build.proofs.FaultLemmas.{passed, passed-on, stopped-front, stopped-rest, stopped-text}
use Rattle.cmd_build.proofs.building.put_front.Goals as goal

pub returns-clause-writes : goal.returns-clause-writes
returns-clause-writes c = on_ok_weaker c.text-2.result (λ last.
    wrote-more (wrote-more (rw (c.as_str.ensures.value) at c.in_ok-put_act.ensures.writes) c.in_ok-put_concern.ensures.writes)
    (wrote-more c.in_ok-text.ensures.writes (rw (c.db_of.ensures) at last))) c.text-2.ensures.writes

pub returns-clause-stops : goal.returns-clause-stops
returns-clause-stops c =
    let x = act_fields c.args.command.now.coll c.args.command.now.act in
    let w = given (codes "writeConcern") (concern_of c.args.command.now.act) in
    let db = db_of c.args.command.now.db c.args.db.now in
    let d = (codes "$db", value.Str db) ∷ [] in
    passed-on c.text-2.result (λ e h. stopped-rest (x ++ w) ((codes "apiVersion", value.Str (codes "1")) ∷ d) e
    (stopped-rest ((codes "apiVersion", value.Str (codes "1")) ∷ []) d e (stopped-text (codes "$db") db e h))) (rw (c.db_of.ensures) at c.text-2.ensures.long)

pub returns-in_err-put_act-clause-stops : goal.returns-in_err-put_act-clause-stops
returns-in_err-put_act-clause-stops c =
    let x = act_fields c.args.command.now.coll c.args.command.now.act in
    let w = given (codes "writeConcern") (concern_of c.args.command.now.act) in
    let r = (codes "apiVersion", value.Str (codes "1")) ∷ (codes "$db", value.Str (db_of c.args.command.now.db c.args.db.now)) ∷ [] in
    let e = c.in_err-put_act.field-0.0 in
    passed _ c.from_residual.result c.from_residual.ensures.1
    (stopped-front (x ++ w) r e (stopped-front x w e (rw (c.as_str.ensures.value) at c.in_err-put_act.ensures.stops)))

pub returns-in_err-put_concern-clause-stops : goal.returns-in_err-put_concern-clause-stops
returns-in_err-put_concern-clause-stops c =
    let x = act_fields c.args.command.now.coll c.args.command.now.act in
    let w = given (codes "writeConcern") (concern_of c.args.command.now.act) in
    let r = (codes "apiVersion", value.Str (codes "1")) ∷ (codes "$db", value.Str (db_of c.args.command.now.db c.args.db.now)) ∷ [] in
    let e = c.in_err-put_concern.field-0.0 in
    passed _ c.from_residual-in_err-put_concern.result c.from_residual-in_err-put_concern.ensures.1
    (stopped-front (x ++ w) r e (stopped-rest x w e c.in_err-put_concern.ensures.stops))

pub returns-in_err-text-clause-stops : goal.returns-in_err-text-clause-stops
returns-in_err-text-clause-stops c =
    let x = act_fields c.args.command.now.coll c.args.command.now.act in
    let w = given (codes "writeConcern") (concern_of c.args.command.now.act) in
    let d = (codes "$db", value.Str (db_of c.args.command.now.db c.args.db.now)) ∷ [] in
    let e = c.in_err-text.field-0.0 in
    passed _ c.from_residual-in_err-text.result c.from_residual-in_err-text.ensures.1
    (stopped-rest (x ++ w) ((codes "apiVersion", value.Str (codes "1")) ∷ d) e
    (stopped-front ((codes "apiVersion", value.Str (codes "1")) ∷ []) d e (stopped-text (codes "apiVersion") (codes "1") e c.in_err-text.ensures.long)))
