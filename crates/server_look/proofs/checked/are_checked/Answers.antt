use Rattle.std.proofs.Common.{◌<◌, length, arith}
use Rattle.std.proofs.lemmas.Option.{slice_get_within}
use Rattle.server_look.proofs.CheckedLemmas.{checked-next, read-at}
use Rattle.server_look.proofs.checked.are_checked.Goals as goal

pub returns-then-waits_for-clause-no : goal.returns-then-waits_for-clause-no
returns-then-waits_for-clause-no c = λ e all.
    let h = c.waits_for.ensures.yes c.if-waits_for.true in
    h.1 (all c.checking.place c.index-servers-place.result (read-at c.args.servers.now c.checking.place c.index-servers-place.result (omega arith) c.index-servers-place.is) h.0)

pub checking-preserved : goal.checking-preserved
checking-preserved c =
    let within : c.checking.place < length c.args.servers.now = omega arith in (
      omega arith,
      checked-next c.args.moment c.args.wait c.args.servers.now c.checking.place c.index-servers-place.result within c.index-servers-place.is
          (c.waits_for.ensures.no c.if-waits_for.false) c.checking.invariant.1,
    )

pub returns-clause-yes : goal.returns-clause-yes
returns-clause-yes c = λ e host s at stays.
    c.checking.invariant.1 host s (omega (arith, slice_get_within c.args.servers.now host s at, c.checking-test.false)) at stays
