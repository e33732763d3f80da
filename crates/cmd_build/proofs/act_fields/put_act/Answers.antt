use Rattle.std.proofs.Common.{[], ◌∷◌, codes}
use Rattle.std.proofs.lemmas.Result.{on_ok_weaker}
use Rattle.bson_doc.specs.declared.value.Value.{Doc}
use Rattle.bson_doc.specs.declared.value.Value.TheVariants as value
use Rattle.bson_wire.proofs.WriteLemmas.{wrote-more}
use Rattle.cmd_build.specs.Commands.{delete_statement, modification, update_statement}
use Rattle.cmd_build.proofs.FaultLemmas.{batch-stops, passed, passed-on, stopped-begin, stopped-front, stopped-held, stopped-rest, stopped-statement, stopped-text}
use Rattle.cmd_build.proofs.WriteLemmas.{wrote-batch}
use Rattle.cmd_build.proofs.act_fields.put_act.Goals as goal

-- ---- Insert

pub returns-in_ok-document-in-Insert-clause-writes : goal.returns-in_ok-document-in-Insert-clause-writes
returns-in_ok-document-in-Insert-clause-writes c =
    rw (c.in-Insert.is) (on_ok_weaker c.end_batch.result (λ ends. wrote-batch c.in_ok-list-in-Insert.ensures.begins c.in_ok-document-in-Insert.ensures.writes ends) c.end_batch.ensures.ends)

pub returns-in_ok-document-in-Insert-clause-stops : goal.returns-in_ok-document-in-Insert-clause-stops
returns-in_ok-document-in-Insert-clause-stops c =
    rw (c.in-Insert.is) (batch-stops _ c.end_batch.result c.in_ok-list-in-Insert.ensures.begins c.in_ok-document-in-Insert.ensures.writes c.end_batch.ensures.long)

pub returns-in_err-list-in-Insert-clause-stops : goal.returns-in_err-list-in-Insert-clause-stops
returns-in_err-list-in-Insert-clause-stops c =
    let e = c.in_err-list-in-Insert.field-0.0 in
    rw (c.in-Insert.is) (passed _ c.from_residual.result c.from_residual.ensures.1
    (stopped-begin (codes "insert") c.args.coll.now (codes "documents") (Doc c.in-Insert.doc) e c.in_err-list-in-Insert.ensures.long))

pub returns-in_err-document-in-Insert-clause-stops : goal.returns-in_err-document-in-Insert-clause-stops
returns-in_err-document-in-Insert-clause-stops c =
    let e = c.in_err-document-in-Insert.field-0.0 in
    rw (c.in-Insert.is) (passed _ c.from_residual-in_err-document-in-Insert.result c.from_residual-in_err-document-in-Insert.ensures.1
    (stopped-statement (codes "insert") c.args.coll.now (codes "documents") (Doc c.in-Insert.doc) e (stopped-held (codes "0") c.in-Insert.doc e c.in_err-document-in-Insert.ensures.deep c.in_err-document-in-Insert.ensures.long)))

-- ---- Update

pub returns-in_ok-put_update-in-Update-clause-writes : goal.returns-in_ok-put_update-in-Update-clause-writes
returns-in_ok-put_update-in-Update-clause-writes c =
    rw (c.in-Update.is) (on_ok_weaker c.end_batch-in-Update.result (λ ends. wrote-batch c.in_ok-list-in-Update.ensures.begins c.in_ok-put_update-in-Update.ensures.writes ends) c.end_batch-in-Update.ensures.ends)

pub returns-in_ok-put_update-in-Update-clause-stops : goal.returns-in_ok-put_update-in-Update-clause-stops
returns-in_ok-put_update-in-Update-clause-stops c =
    rw (c.in-Update.is) (batch-stops _ c.end_batch-in-Update.result c.in_ok-list-in-Update.ensures.begins c.in_ok-put_update-in-Update.ensures.writes c.end_batch-in-Update.ensures.long)

pub returns-in_err-list-in-Update-clause-stops : goal.returns-in_err-list-in-Update-clause-stops
returns-in_err-list-in-Update-clause-stops c =
    let e = c.in_err-list-in-Update.field-0.0 in
    rw (c.in-Update.is) (passed _ c.from_residual-in_err-list-in-Update.result c.from_residual-in_err-list-in-Update.ensures.1
    (stopped-begin (codes "update") c.args.coll.now (codes "updates") (Doc (update_statement c.in-Update.filter c.in-Update.change c.in-Update.multi c.in-Update.upsert)) e c.in_err-list-in-Update.ensures.long))

pub returns-in_err-put_update-in-Update-clause-stops : goal.returns-in_err-put_update-in-Update-clause-stops
returns-in_err-put_update-in-Update-clause-stops c =
    let e = c.in_err-put_update-in-Update.field-0.0 in
    rw (c.in-Update.is) (passed _ c.from_residual-in_err-put_update-in-Update.result c.from_residual-in_err-put_update-in-Update.ensures.1
    (stopped-statement (codes "update") c.args.coll.now (codes "updates") (Doc (update_statement c.in-Update.filter c.in-Update.change c.in-Update.multi c.in-Update.upsert)) e c.in_err-put_update-in-Update.ensures.stops))

-- ---- Delete

pub returns-in_ok-put_delete-in-Delete-clause-writes : goal.returns-in_ok-put_delete-in-Delete-clause-writes
returns-in_ok-put_delete-in-Delete-clause-writes c =
    rw (c.in-Delete.is) (on_ok_weaker c.end_batch-in-Delete.result (λ ends. wrote-batch c.in_ok-list-in-Delete.ensures.begins c.in_ok-put_delete-in-Delete.ensures.writes ends) c.end_batch-in-Delete.ensures.ends)

pub returns-in_ok-put_delete-in-Delete-clause-stops : goal.returns-in_ok-put_delete-in-Delete-clause-stops
returns-in_ok-put_delete-in-Delete-clause-stops c =
    rw (c.in-Delete.is) (batch-stops _ c.end_batch-in-Delete.result c.in_ok-list-in-Delete.ensures.begins c.in_ok-put_delete-in-Delete.ensures.writes c.end_batch-in-Delete.ensures.long)

pub returns-in_err-list-in-Delete-clause-stops : goal.returns-in_err-list-in-Delete-clause-stops
returns-in_err-list-in-Delete-clause-stops c =
    let e = c.in_err-list-in-Delete.field-0.0 in
    rw (c.in-Delete.is) (passed _ c.from_residual-in_err-list-in-Delete.result c.from_residual-in_err-list-in-Delete.ensures.1
    (stopped-begin (codes "delete") c.args.coll.now (codes "deletes") (Doc (delete_statement c.in-Delete.filter c.in-Delete.all)) e c.in_err-list-in-Delete.ensures.long))

pub returns-in_err-put_delete-in-Delete-clause-stops : goal.returns-in_err-put_delete-in-Delete-clause-stops
returns-in_err-put_delete-in-Delete-clause-stops c =
    let e = c.in_err-put_delete-in-Delete.field-0.0 in
    rw (c.in-Delete.is) (passed _ c.from_residual-in_err-put_delete-in-Delete.result c.from_residual-in_err-put_delete-in-Delete.ensures.1
    (stopped-statement (codes "delete") c.args.coll.now (codes "deletes") (Doc (delete_statement c.in-Delete.filter c.in-Delete.all)) e c.in_err-put_delete-in-Delete.ensures.stops))

-- ---- FindAndModify

pub returns-in_ok-document-in-FindAndModify-clause-writes : goal.returns-in_ok-document-in-FindAndModify-clause-writes
returns-in_ok-document-in-FindAndModify-clause-writes c =
    rw (c.in-FindAndModify.is) (on_ok_weaker c.put_modification.result (λ last. wrote-more c.in_ok-text-in-FindAndModify.ensures.writes (wrote-more c.in_ok-document-in-FindAndModify.ensures.writes last)) c.put_modification.ensures.writes)

pub returns-in_ok-document-in-FindAndModify-clause-stops : goal.returns-in_ok-document-in-FindAndModify-clause-stops
returns-in_ok-document-in-FindAndModify-clause-stops c =
    let front = (codes "findAndModify", value.Str c.args.coll.now) ∷ (codes "query", Doc c.in-FindAndModify.filter) ∷ [] in
    rw (c.in-FindAndModify.is) (passed-on c.put_modification.result (λ e h. stopped-rest front (modification c.in-FindAndModify.change ∷ []) e h) c.put_modification.ensures.stops)

pub returns-in_err-text-in-FindAndModify-clause-stops : goal.returns-in_err-text-in-FindAndModify-clause-stops
returns-in_err-text-in-FindAndModify-clause-stops c =
    let name = (codes "findAndModify", value.Str c.args.coll.now) ∷ [] in
    let behind = (codes "query", Doc c.in-FindAndModify.filter) ∷ modification c.in-FindAndModify.change ∷ [] in
    let e = c.in_err-text-in-FindAndModify.field-0.0 in
    rw (c.in-FindAndModify.is) (passed _ c.from_residual-in_err-text-in-FindAndModify.result c.from_residual-in_err-text-in-FindAndModify.ensures.1
    (stopped-front name behind e (stopped-text (codes "findAndModify") c.args.coll.now e c.in_err-text-in-FindAndModify.ensures.long)))

pub returns-in_err-document-in-FindAndModify-clause-stops : goal.returns-in_err-document-in-FindAndModify-clause-stops
returns-in_err-document-in-FindAndModify-clause-stops c =
    let name = (codes "findAndModify", value.Str c.args.coll.now) ∷ [] in
    let query = (codes "query", Doc c.in-FindAndModify.filter) ∷ [] in
    let behind = modification c.in-FindAndModify.change ∷ [] in
    let e = c.in_err-document-in-FindAndModify.field-0.0 in
    let held = stopped-held (codes "query") c.in-FindAndModify.filter e c.in_err-document-in-FindAndModify.ensures.deep c.in_err-document-in-FindAndModify.ensures.long in
    rw (c.in-FindAndModify.is) (passed _ c.from_residual-in_err-document-in-FindAndModify.result c.from_residual-in_err-document-in-FindAndModify.ensures.1
    (stopped-rest name ((codes "query", Doc c.in-FindAndModify.filter) ∷ behind) e (stopped-front query behind e held)))
