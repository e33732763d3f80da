use Rattle.std.proofs.Common.{◌+◌, arith}
use Rattle.std.proofs.Math.ListN.{drop, get_or}
use Rattle.desk_core.proofs.AppendsLemmas.{Appends-refl, Appends-rose}
use Rattle.desk_core.proofs.BegunLemmas.{IsWriting-as, begun, begun-all, begun-one, host-at}
use Rattle.desk_core.proofs.state.Core.begin_all.Goals as goal

pub loop-host-init : goal.loop-host-init
loop-host-init g c = (c.requires.writing, omega arith, Appends-refl c.args.moment c.args.self.now.trail)

pub begin_next-requires : goal.begin_next-requires
begin_next-requires g c =
    let i = c.loop-host.invariant in
    let hosts = c.args.hosts.now in
    let at = c.loop-host.host-index in
    record {
      writing = (
        begun (drop (at + 1) hosts),
        IsWriting-as c.loop-host.self c.args.moment 0 _ _ (begun-one hosts at (get_or hosts at 0) (host-at hosts at c.loop-host-test.true)) i.0,
      );
    }

pub returns-in_err-begin_next-clause-appends : goal.returns-in_err-begin_next-clause-appends
returns-in_err-begin_next-clause-appends g c =
    let i = c.loop-host.invariant in
    Appends-rose _ _ _ c.args.moment c.args.self.now.trail c.loop-host.self.trail c.begin_next.new.self.trail i.1 c.begin_next.ensures.faults i.2 c.begin_next.ensures.appends

pub loop-host-preserved : goal.loop-host-preserved
loop-host-preserved g c =
    let i = c.loop-host.invariant in
    let hosts = c.args.hosts.now in
    let at = c.loop-host.host-index in
    let before = i.1 in
    let later = c.begin_next.ensures.faults in (
      c.in_ok-begin_next.ensures.ok (begun (drop (at + 1) hosts))
          (IsWriting-as c.loop-host.self c.args.moment 0 _ _ (begun-one hosts at (get_or hosts at 0) (host-at hosts at c.loop-host-test.true)) i.0),
      omega arith,
      Appends-rose _ _ _ c.args.moment c.args.self.now.trail c.loop-host.self.trail c.begin_next.new.self.trail i.1 c.begin_next.ensures.faults i.2 c.begin_next.ensures.appends,
    )

pub returns-clause-ok : goal.returns-clause-ok
returns-clause-ok g c =
    let i = c.loop-host.invariant in
    let end = c.loop-host-test.false in
    IsWriting-as c.loop-host.self c.args.moment 0 _ _ (begun-all c.args.hosts.now c.loop-host.host-index (omega arith)) i.0

pub returns-clause-appends : goal.returns-clause-appends
returns-clause-appends g c = c.loop-host.invariant.2
