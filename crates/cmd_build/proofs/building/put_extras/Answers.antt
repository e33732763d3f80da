use Rattle.std.proofs.Common.{codes, ◌++◌}
use Rattle.std.specs.Option.{option_copied}
use Rattle.std.proofs.lemmas.Result.{on_ok_weaker}
use Rattle.bson_wire.proofs.WriteLemmas.{wrote-more}
use Rattle.cmd_build.specs.Commands.{given, number_of, preference_of, session_of, time_of}
use Rattle.cmd_build.proofs.FaultLemmas.{passed, passed-on, stopped-front, stopped-rest}
use Rattle.cmd_build.proofs.building.put_extras.Goals as goal

pub returns-clause-writes : goal.returns-clause-writes
returns-clause-writes c = on_ok_weaker c.put_time.result (λ last.
    wrote-more (wrote-more (wrote-more c.in_ok-put_preference.ensures.writes c.in_ok-put_session.ensures.writes) c.in_ok-put_number.ensures.writes) last) c.put_time.ensures.writes

pub returns-clause-stops : goal.returns-clause-stops
returns-clause-stops c =
    let p = given (codes "$readPreference") (preference_of c.args.act.now c.args.extras.now) in
    let l = given (codes "lsid") (session_of c.args.extras.now.lsid) in
    let n = given (codes "txnNumber") (number_of c.args.extras.now.number) in
    let t = given (codes "$clusterTime") (time_of (option_copied c.args.time)) in
    passed-on c.put_time.result (λ e h. stopped-rest (p ++ l ++ n) t e h) c.put_time.ensures.stops

pub returns-in_err-put_preference-clause-stops : goal.returns-in_err-put_preference-clause-stops
returns-in_err-put_preference-clause-stops c =
    let p = given (codes "$readPreference") (preference_of c.args.act.now c.args.extras.now) in
    let l = given (codes "lsid") (session_of c.args.extras.now.lsid) in
    let n = given (codes "txnNumber") (number_of c.args.extras.now.number) in
    let t = given (codes "$clusterTime") (time_of (option_copied c.args.time)) in
    let e = c.in_err-put_preference.field-0.0 in
    passed _ c.from_residual.result c.from_residual.ensures.1
    (stopped-front (p ++ l ++ n) t e (stopped-front (p ++ l) n e (stopped-front p l e c.in_err-put_preference.ensures.stops)))

pub returns-in_err-put_session-clause-stops : goal.returns-in_err-put_session-clause-stops
returns-in_err-put_session-clause-stops c =
    let p = given (codes "$readPreference") (preference_of c.args.act.now c.args.extras.now) in
    let l = given (codes "lsid") (session_of c.args.extras.now.lsid) in
    let n = given (codes "txnNumber") (number_of c.args.extras.now.number) in
    let t = given (codes "$clusterTime") (time_of (option_copied c.args.time)) in
    let e = c.in_err-put_session.field-0.0 in
    passed _ c.from_residual-in_err-put_session.result c.from_residual-in_err-put_session.ensures.1
    (stopped-front (p ++ l ++ n) t e (stopped-front (p ++ l) n e (stopped-rest p l e c.in_err-put_session.ensures.stops)))

pub returns-in_err-put_number-clause-stops : goal.returns-in_err-put_number-clause-stops
returns-in_err-put_number-clause-stops c =
    let p = given (codes "$readPreference") (preference_of c.args.act.now c.args.extras.now) in
    let l = given (codes "lsid") (session_of c.args.extras.now.lsid) in
    let n = given (codes "txnNumber") (number_of c.args.extras.now.number) in
    let t = given (codes "$clusterTime") (time_of (option_copied c.args.time)) in
    let e = c.in_err-put_number.field-0.0 in
    passed _ c.from_residual-in_err-put_number.result c.from_residual-in_err-put_number.ensures.1
    (stopped-front (p ++ l ++ n) t e (stopped-rest (p ++ l) n e c.in_err-put_number.ensures.stops))
