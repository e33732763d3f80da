use Rattle.std.proofs.Common.{arith}
use Rattle.desk_core.proofs.AnsweredLooks.{aside-next}
use Rattle.desk_core.proofs.AppendsLemmas.{Appends-refl}
use Rattle.desk_core.proofs.state.Core.read_checks.Goals as goal

pub reading-init : goal.reading-init
reading-init g c = (omega arith, c.requires.ready, omega arith, Appends-refl c.args.moment c.args.self.now.trail)

pub returns-in_err-read_check-clause-appends : goal.returns-in_err-read_check-clause-appends
returns-in_err-read_check-clause-appends g c =
    aside-next c.args.moment (g.N.Net.faults c.args.self.now.net) (g.N.Net.faults c.reading.self.net) (g.N.Net.faults c.read_check.new.self.net) c.args.self.now.trail
    c.reading.self.trail c.read_check.new.self.trail c.reading.invariant.2 c.read_check.ensures.faults c.reading.invariant.3 c.read_check.ensures.appends

pub reading-preserved : goal.reading-preserved
reading-preserved g c = (
  omega (arith, c.reading-test.true),
  c.in_ok-read_check.ensures.ok,
  omega (arith, c.reading.invariant.2, c.read_check.ensures.faults),
  aside-next c.args.moment (g.N.Net.faults c.args.self.now.net) (g.N.Net.faults c.reading.self.net) (g.N.Net.faults c.read_check.new.self.net) c.args.self.now.trail
      c.reading.self.trail c.read_check.new.self.trail c.reading.invariant.2 c.read_check.ensures.faults c.reading.invariant.3 c.read_check.ensures.appends,
)
