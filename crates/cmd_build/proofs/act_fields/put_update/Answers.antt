use Rattle.std.proofs.Common.{[], ◌∷◌, codes}
use Rattle.std.proofs.lemmas.Result.{on_ok_weaker}
use Rattle.bson_doc.specs.declared.value.Value.{Doc}
use Rattle.bson_doc.specs.declared.value.Value.TheVariants as value
use Rattle.bson_wire.proofs.WriteLemmas.{wrote-document, wrote-more}
use Rattle.cmd_build.specs.Commands.{update_statement}
use Rattle.cmd_build.proofs.FaultLemmas.{end-stops, passed, passed-on, stopped-document, stopped-front, stopped-held, stopped-rest}
use Rattle.cmd_build.proofs.act_fields.put_update.Goals as goal

pub returns-clause-writes : goal.returns-clause-writes
returns-clause-writes c = on_ok_weaker c.end.result (λ ends.
    wrote-document c.in_ok-statement.ensures.begins
    (wrote-more c.in_ok-document.ensures.writes (wrote-more c.in_ok-document-2.ensures.writes (wrote-more c.in_ok-truth.ensures.writes c.in_ok-truth-2.ensures.writes))) ends) c.end.ensures.ends

pub returns-clause-stops : goal.returns-clause-stops
returns-clause-stops c =
    let fields = (update_statement c.args.filter.now c.args.change.now c.args.multi c.args.upsert).elements in
    passed-on c.end.result (λ e h. stopped-document (codes "0") fields e h)
    (end-stops _ c.end.result c.in_ok-statement.ensures.begins.place
    (wrote-more c.in_ok-document.ensures.writes (wrote-more c.in_ok-document-2.ensures.writes (wrote-more c.in_ok-truth.ensures.writes c.in_ok-truth-2.ensures.writes))) c.end.ensures.long)

pub returns-in_err-document-clause-stops : goal.returns-in_err-document-clause-stops
returns-in_err-document-clause-stops c =
    let filter = (codes "q", Doc c.args.filter.now) ∷ [] in
    let behind = (codes "u", Doc c.args.change.now) ∷ (codes "multi", value.Bool c.args.multi) ∷ (codes "upsert", value.Bool c.args.upsert) ∷ [] in
    let e = c.in_err-document.field-0.0 in
    let held = stopped-held (codes "q") c.args.filter.now e c.in_err-document.ensures.deep c.in_err-document.ensures.long in
    passed _ c.from_residual-in_err-document.result c.from_residual-in_err-document.ensures.1
    (stopped-document (codes "0") ((codes "q", Doc c.args.filter.now) ∷ behind) e (stopped-front filter behind e held))

pub returns-in_err-document-2-clause-stops : goal.returns-in_err-document-2-clause-stops
returns-in_err-document-2-clause-stops c =
    let filter = (codes "q", Doc c.args.filter.now) ∷ [] in
    let change = (codes "u", Doc c.args.change.now) ∷ [] in
    let behind = (codes "multi", value.Bool c.args.multi) ∷ (codes "upsert", value.Bool c.args.upsert) ∷ [] in
    let e = c.in_err-document-2.field-0.0 in
    let held = stopped-held (codes "u") c.args.change.now e c.in_err-document-2.ensures.deep c.in_err-document-2.ensures.long in
    passed _ c.from_residual-in_err-document-2.result c.from_residual-in_err-document-2.ensures.1
    (stopped-document (codes "0") ((codes "q", Doc c.args.filter.now) ∷ (codes "u", Doc c.args.change.now) ∷ behind) e
    (stopped-rest filter ((codes "u", Doc c.args.change.now) ∷ behind) e (stopped-front change behind e held)))
