use Rattle.std.proofs.Common.{◌+◌, ◌*◌, ◌++◌, length, take, drop, map, ap, ◌∙◌, arith, refl}
use Rattle.std.proofs.lemmas.List.{length-append, length-take-le}
use Rattle.desk_trail.specs.Owed as owed
use Rattle.desk_core.proofs.AppendsLemmas.{Appends-trans}
use Rattle.desk_core.proofs.HostsLemmas.{AllNamed-end, AreNamed-next, AreNamed-start, AreNamed-writes}
use Rattle.desk_core.proofs.state.Core.name_all.Goals as goal

pub loop-host-init : goal.loop-host-init
loop-host-init g c = (AreNamed-start c.args.moment c.args.self.now c.args.hosts.now, refl, refl)

pub name-requires-clause-writing : goal.name-requires-clause-writing
name-requires-clause-writing g c =
    let w = c.requires.writing in
    let left = drop (c.loop-host.host-index + 1) c.args.hosts.now in (
      map (λ h. owed.Named h) left ++ w.0,
      w.1 + 2 * length left,
      AreNamed-writes c.args.moment c.args.self.now c.loop-host.self c.args.hosts.now c.loop-host.host-index c.host-item.result w.0 w.1 c.loop-host.invariant.0 c.loop-host-test.true
          c.host-item.is w.2,
    )

pub name-requires-clause-count : goal.name-requires-clause-count
name-requires-clause-count g c =
    let below = c.loop-host-test.true in
    let count = c.requires.count in
    let taken = length-take-le c.loop-host.host-index c.args.hosts.now (omega arith) in
    let names = ap length c.loop-host.invariant.0.names ∙ length-append c.args.self.now.trail.lists.names (take c.loop-host.host-index c.args.hosts.now) in
    omega arith

pub returns-in_err-name-clause-appends : goal.returns-in_err-name-clause-appends
returns-in_err-name-clause-appends g c =
    Appends-trans c.args.moment c.args.self.now.trail c.loop-host.self.trail c.name.new.self.trail c.loop-host.invariant.0.appends c.name.ensures.appends

pub loop-host-preserved : goal.loop-host-preserved
loop-host-preserved g c = (
  AreNamed-next c.args.moment c.args.self.now c.loop-host.self c.name.new.self c.args.hosts.now c.loop-host.host-index c.host-item.result c.loop-host.invariant.0 c.loop-host-test.true
      c.host-item.is c.in_ok-name.ensures.ok c.in_ok-name.ensures.others c.in_ok-name.ensures.checks c.in_ok-name.ensures.names c.in_ok-name.ensures.appends,
  c.in_ok-name.ensures.net ∙ c.loop-host.invariant.1,
  c.in_ok-name.ensures.lines ∙ c.loop-host.invariant.2,
)

pub returns-clause-ok : goal.returns-clause-ok
returns-clause-ok g c =
    (AllNamed-end c.args.moment c.args.self.now c.loop-host.self c.args.hosts.now c.loop-host.host-index c.loop-host-test.false c.loop-host.invariant.0).writes

pub returns-clause-others : goal.returns-clause-others
returns-clause-others g c =
    (AllNamed-end c.args.moment c.args.self.now c.loop-host.self c.args.hosts.now c.loop-host.host-index c.loop-host-test.false c.loop-host.invariant.0).others

pub returns-clause-names : goal.returns-clause-names
returns-clause-names g c =
    (AllNamed-end c.args.moment c.args.self.now c.loop-host.self c.args.hosts.now c.loop-host.host-index c.loop-host-test.false c.loop-host.invariant.0).names

pub returns-clause-appends : goal.returns-clause-appends
returns-clause-appends g c = c.loop-host.invariant.0.appends

pub returns-in_err-name-clause-net : goal.returns-in_err-name-clause-net
returns-in_err-name-clause-net g c = c.name.ensures.net ∙ c.loop-host.invariant.1

pub returns-in_err-name-clause-lines : goal.returns-in_err-name-clause-lines
returns-in_err-name-clause-lines g c = c.name.ensures.lines ∙ c.loop-host.invariant.2

pub returns-clause-net : goal.returns-clause-net
returns-clause-net g c = c.loop-host.invariant.1

pub returns-clause-lines : goal.returns-clause-lines
returns-clause-lines g c = c.loop-host.invariant.2

pub returns-clause-checks : goal.returns-clause-checks
returns-clause-checks g c = c.loop-host.invariant.0.checks
