use Rattle.std.proofs.Common.{◌≡◌, refl, arith}
use Rattle.wired_trail.specs.declared.stream_use.StreamUse.{StreamUse}
use Rattle.wired_trail.specs.declared.stream_use.StreamUse.TheVariants as for_use
use Rattle.cmd_step.specs.Sweeps.{IsOfConn}
use Rattle.cmd_step.proofs.ClosedLemmas.{ClosesOnly-refl, ClosesOnly-trans, ClosesOnly-wider}
use Rattle.cmd_step.proofs.SweepLemmas.{begins, goes_on, unused-more, unused-none}
use Rattle.cmd_step.proofs.sweeping.sweep.Goals as goal

pub sweeping-init : goal.sweeping-init
sweeping-init g c = record {
  goes = begins c.args.host c.args.moment c.args.wired.now.trail c.args.server.now c.requires.free c.requires.there c.requires.idle;
  closes = ClosesOnly-refl (IsOfConn c.args.host) c.args.wired.now.lines c.args.wired.now.lines refl;
  gone = unused-none c.args.host c.args.wired.now.lines c.args.server.now;
  faults = omega arith;
}

pub sweeping-preserved : goal.sweeping-preserved
sweeping-preserved g c =
    let host = c.args.host in
    let conn = c.in-Some.swept.conn in
    let h = c.sweeping.invariant in
    record {
      goes = goes_on host c.args.moment conn c.in-Some.swept.reason c.args.wired.now.trail c.sweeping.wired.trail c.shut.new.wired.trail c.args.server.now
          c.sweeping.server c.sweep.new.self h.goes c.in-Some.ensures.some c.in-Some.ensures.fewer c.shut.ensures.adds c.shut.ensures.moved;
      closes = ClosesOnly-trans (IsOfConn host) c.args.wired.now.lines c.sweeping.wired.lines c.shut.new.wired.lines h.closes
          (ClosesOnly-wider (λ (u : StreamUse). u ≡ for_use.Conn host conn) (IsOfConn host) c.sweeping.wired.lines c.shut.new.wired.lines (λ u is. (conn, is)) c.shut.ensures.closes);
      gone = unused-more host c.args.moment conn c.in-Some.swept.reason c.sweeping.wired.lines c.shut.new.wired.lines c.args.server.now c.sweeping.server c.sweep.new.self h.goes.streams
          c.in-Some.ensures.some h.gone c.shut.ensures.closes c.shut.ensures.gone;
      faults = let before = h.faults in let step = c.shut.ensures.faults in omega arith;
    }
