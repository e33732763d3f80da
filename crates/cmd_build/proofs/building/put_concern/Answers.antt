use Rattle.std.proofs.Common.{[], ◌∷◌, codes, sym}
use Rattle.std.proofs.lemmas.Result.{on_ok_weaker}
use Rattle.bson_doc.specs.declared.value.Value.TheVariants as value
use Rattle.bson_wire.proofs.WriteLemmas.{wrote-document}
use Rattle.cmd_build.proofs.FaultLemmas.{end-stops, passed, passed-on, stopped-document, stopped-text}
use Rattle.cmd_build.proofs.WriteLemmas.{concern-given, concern-stopped}
use Rattle.cmd_build.proofs.building.put_concern.Goals as goal

pub returns-clause-writes : goal.returns-clause-writes
returns-clause-writes c = on_ok_weaker c.end.result (λ ends.
    concern-given _ c.args.writer.now c.end.new.self (sym c.if-not-is_write.ensures.writes) (wrote-document c.in_ok-concern.ensures.begins c.in_ok-text.ensures.writes ends)) c.end.ensures.ends

pub returns-clause-stops : goal.returns-clause-stops
returns-clause-stops c =
    passed-on c.end.result (λ e h. concern-stopped _ e (sym c.if-not-is_write.ensures.writes) (stopped-document (codes "writeConcern") ((codes "w", value.Str (codes "majority")) ∷ []) e h))
    (end-stops _ c.end.result c.in_ok-concern.ensures.begins.place c.in_ok-text.ensures.writes c.end.ensures.long)

pub returns-in_err-text-clause-stops : goal.returns-in_err-text-clause-stops
returns-in_err-text-clause-stops c =
    let e = c.in_err-text.field-0.0 in
    passed _ c.from_residual-in_err-text.result c.from_residual-in_err-text.ensures.1
    (concern-stopped _ e (sym c.if-not-is_write.ensures.writes)
    (stopped-document (codes "writeConcern") ((codes "w", value.Str (codes "majority")) ∷ []) e (stopped-text (codes "w") (codes "majority") e c.in_err-text.ensures.long)))
