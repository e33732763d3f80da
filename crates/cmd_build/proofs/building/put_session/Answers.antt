use Rattle.std.proofs.Common.{[], ◌∷◌, codes}
use Rattle.std.proofs.lemmas.Result.{on_ok_weaker}
use Rattle.bson_doc.specs.declared.value.Value.TheVariants as value
use Rattle.bson_wire.proofs.WriteLemmas.{wrote-document}
use Rattle.cmd_build.proofs.FaultLemmas.{end-stops, passed, passed-on, stopped-binary, stopped-document}
use Rattle.cmd_build.proofs.building.put_session.Goals as goal

pub returns-in_ok-binary-in-Some-clause-writes : goal.returns-in_ok-binary-in-Some-clause-writes
returns-in_ok-binary-in-Some-clause-writes c =
    rw (c.in-Some.is) (on_ok_weaker c.end.result (λ ends. wrote-document c.in_ok-session-in-Some.ensures.begins c.in_ok-binary-in-Some.ensures.writes ends) c.end.ensures.ends)

pub returns-in_ok-binary-in-Some-clause-stops : goal.returns-in_ok-binary-in-Some-clause-stops
returns-in_ok-binary-in-Some-clause-stops c =
    rw (c.in-Some.is) (passed-on c.end.result (λ e h. stopped-document (codes "lsid") ((codes "id", value.Binary 4 c.in-Some.id.0) ∷ []) e h)
    (end-stops _ c.end.result c.in_ok-session-in-Some.ensures.begins.place c.in_ok-binary-in-Some.ensures.writes c.end.ensures.long))

pub returns-in_err-binary-in-Some-clause-stops : goal.returns-in_err-binary-in-Some-clause-stops
returns-in_err-binary-in-Some-clause-stops c =
    let e = c.in_err-binary-in-Some.field-0.0 in
    rw (c.in-Some.is) (passed _ c.from_residual-in_err-binary-in-Some.result c.from_residual-in_err-binary-in-Some.ensures.1
    (stopped-document (codes "lsid") ((codes "id", value.Binary 4 c.in-Some.id.0) ∷ []) e (stopped-binary (codes "id") 4 c.in-Some.id.0 e c.in_err-binary-in-Some.ensures.long)))
