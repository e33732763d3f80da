use Rattle.std.proofs.Common.{arith, ◌+◌, ◌++◌, length, drop, filter_map, map}
use Rattle.desk_trail.specs.Owed as owed
use Rattle.desk_trail.specs.States.{number_of}
use Rattle.desk_core.proofs.HostsLemmas.{AllDropped-end, AreDropped-next, AreDropped-start, AreDropped-writes}
use Rattle.desk_core.proofs.state.Core.drop_all.Goals as goal

pub loop-host-init : goal.loop-host-init
loop-host-init g c = (AreDropped-start c.args.moment c.args.self.now c.args.hosts.now, omega arith)

pub drop_at-requires : goal.drop_at-requires
drop_at-requires g c =
    let w = c.requires.writing in
    let left = drop (c.loop-host.host-index + 1) c.args.hosts.now in
    record {
      writing = (
        map (λ y. owed.Dropped y) (filter_map (number_of c.args.self.now.trail.point.state) left) ++ w.0,
        w.1 + length left,
        AreDropped-writes c.args.moment c.args.self.now c.loop-host.self c.args.hosts.now c.loop-host.host-index c.host-item.result w.0 w.1 c.requires.differ
            c.loop-host.invariant.0 c.loop-host-test.true c.host-item.is w.2,
      );
    }

pub loop-host-preserved : goal.loop-host-preserved
loop-host-preserved g c = (
  AreDropped-next c.args.moment c.args.self.now c.loop-host.self c.drop_at.new.self c.args.hosts.now c.loop-host.host-index c.host-item.result c.requires.differ
      c.loop-host.invariant.0 c.loop-host-test.true c.host-item.is c.drop_at.ensures.writing c.drop_at.ensures.others c.drop_at.ensures.checks c.drop_at.ensures.names c.drop_at.ensures.appends,
  omega (arith, c.loop-host.invariant.1, c.drop_at.ensures.faults),
)

pub returns-clause-writing : goal.returns-clause-writing
returns-clause-writing g c =
    (AllDropped-end c.args.moment c.args.self.now c.loop-host.self c.args.hosts.now c.loop-host.host-index c.loop-host-test.false c.loop-host.invariant.0).writes

pub returns-clause-others : goal.returns-clause-others
returns-clause-others g c =
    (AllDropped-end c.args.moment c.args.self.now c.loop-host.self c.args.hosts.now c.loop-host.host-index c.loop-host-test.false c.loop-host.invariant.0).others

pub returns-clause-names : goal.returns-clause-names
returns-clause-names g c = c.loop-host.invariant.0.names

pub returns-clause-appends : goal.returns-clause-appends
returns-clause-appends g c = c.loop-host.invariant.0.appends

pub returns-clause-faults : goal.returns-clause-faults
returns-clause-faults g c = c.loop-host.invariant.1

pub returns-clause-checks : goal.returns-clause-checks
returns-clause-checks g c = c.loop-host.invariant.0.checks
