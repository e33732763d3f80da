use Rattle.std.proofs.Common.{true, pos, [], ◌∷◌, codes}
use Rattle.std.proofs.lemmas.Result.{on_ok_weaker}
use Rattle.bson_doc.specs.declared.value.Value.{Doc}
use Rattle.bson_doc.specs.declared.value.Value.TheVariants as value
use Rattle.bson_wire.proofs.WriteLemmas.{wrote-more}
use Rattle.cmd_build.proofs.FaultLemmas.{passed, stopped-front, stopped-held, stopped-rest, stopped-text}
use Rattle.cmd_build.proofs.act_fields.put_find.Goals as goal

pub returns-clause-writes : goal.returns-clause-writes
returns-clause-writes c = on_ok_weaker c.truth.result (λ last.
    wrote-more c.in_ok-text.ensures.writes (wrote-more c.in_ok-document.ensures.writes (wrote-more c.in_ok-int32.ensures.writes last))) c.truth.ensures.writes

pub returns-in_err-text-clause-stops : goal.returns-in_err-text-clause-stops
returns-in_err-text-clause-stops c =
    let behind = (codes "filter", Doc c.args.filter.now) ∷ (codes "limit", value.Int32 (pos 1)) ∷ (codes "singleBatch", value.Bool true) ∷ [] in
    let e = c.in_err-text.field-0.0 in
    passed _ c.from_residual.result c.from_residual.ensures.1
    (stopped-front ((codes "find", value.Str c.args.coll.now) ∷ []) behind e (stopped-text (codes "find") c.args.coll.now e c.in_err-text.ensures.long))

pub returns-in_err-document-clause-stops : goal.returns-in_err-document-clause-stops
returns-in_err-document-clause-stops c =
    let filter = (codes "filter", Doc c.args.filter.now) ∷ [] in
    let behind = (codes "limit", value.Int32 (pos 1)) ∷ (codes "singleBatch", value.Bool true) ∷ [] in
    let e = c.in_err-document.field-0.0 in
    let held = stopped-held (codes "filter") c.args.filter.now e c.in_err-document.ensures.deep c.in_err-document.ensures.long in
    passed _ c.from_residual-in_err-document.result c.from_residual-in_err-document.ensures.1
    (stopped-rest ((codes "find", value.Str c.args.coll.now) ∷ []) ((codes "filter", Doc c.args.filter.now) ∷ behind) e (stopped-front filter behind e held))
