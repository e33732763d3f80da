use Rattle.std.proofs.Common.{◌≡◌, ℤ, pos, if◌then◌else◌, [], ◌∷◌, codes, subst, refl, to_z, w32}
use Rattle.std.proofs.lemmas.Result.{on_ok_weaker}
use Rattle.bson_doc.specs.declared.value.Value.{Doc}
use Rattle.bson_doc.specs.declared.value.Value.TheVariants as value
use Rattle.bson_wire.specs.Writes.{Writes}
use Rattle.bson_wire.proofs.WriteLemmas.{wrote-document, wrote-more}
use Rattle.cmd_build.specs.Commands.{delete_statement}
use Rattle.cmd_build.proofs.FaultLemmas.{end-stops, passed, passed-on, stopped-document, stopped-front, stopped-held}
use Rattle.cmd_build.proofs.act_fields.put_delete.Goals.{then-all, else-all}
use Rattle.cmd_build.proofs.act_fields.put_delete.Goals as goal

pub returns : goal.returns
returns c = record {
  writes = on_ok_weaker c.end.result (λ ends. wrote-document c.in_ok-statement.ensures.begins (wrote-more c.in_ok-document.ensures.writes limited) ends) c.end.ensures.ends;
  stops =
      passed-on c.end.result (λ e h. stopped-document (codes "0") (delete_statement c.args.filter.now c.args.all).elements e h)
      (end-stops _ c.end.result c.in_ok-statement.ensures.begins.place (wrote-more c.in_ok-document.ensures.writes limited) c.end.ensures.long);
}
  where
    limit : to_z w32 c.if-all.limit-bits ≡ (if c.args.all then pos 0 else pos 1)
    limit = elim c.if-all.branch [
      | then-all w ↦ rw (w.limit-is, w.if-all.true) refl
      | else-all w ↦ rw (w.limit-is, w.if-all.false) refl
    ]

    limited : Writes c.document.new.self c.int32.new.self ((codes "limit", value.Int32 (if c.args.all then pos 0 else pos 1)) ∷ [])
    limited = subst (λ (n : ℤ). Writes c.document.new.self c.int32.new.self ((codes "limit", value.Int32 n) ∷ [])) limit c.in_ok-int32.ensures.writes

pub returns-in_err-document-clause-stops : goal.returns-in_err-document-clause-stops
returns-in_err-document-clause-stops c =
    let filter = (codes "q", Doc c.args.filter.now) ∷ [] in
    let behind = (codes "limit", value.Int32 (if c.args.all then pos 0 else pos 1)) ∷ [] in
    let e = c.in_err-document.field-0.0 in
    let held = stopped-held (codes "q") c.args.filter.now e c.in_err-document.ensures.deep c.in_err-document.ensures.long in
    passed _ c.from_residual-in_err-document.result c.from_residual-in_err-document.ensures.1
    (stopped-document (codes "0") ((codes "q", Doc c.args.filter.now) ∷ behind) e (stopped-front filter behind e held))
