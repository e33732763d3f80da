use Rattle.std.proofs.Common.{◌≤◌, length}
use Rattle.cmd_step.specs.Closed.{ClosesOnly}
use Rattle.cmd_step.specs.Sweeps.{AreUnused, IsOfConn, IsSweeping}
use Rattle.cmd_step.proofs.sweeping.sweep.Given as goal

-- So many connections were shut.
abbrev pub invariant-sweeping : goal.invariant-sweeping
invariant-sweeping g l = record {
  goes : IsSweeping l.fn.host l.fn.moment l.fn.wired.trail l.wired.trail l.fn.server l.server;
  closes : ClosesOnly (IsOfConn l.fn.host) l.fn.wired.lines l.wired.lines;
  gone : AreUnused l.fn.host l.wired.lines l.fn.server l.server;
  faults : g.N.Net.faults l.fn.wired.net ≤ g.N.Net.faults l.wired.net;
}

abbrev pub decreases-sweeping : goal.decreases-sweeping
decreases-sweeping g l = length l.server.pool.state.available
