use Rattle.std.proofs.Common.{◌≡◌, ◌≤◌, ◌-◌, ◌++◌, take, length}
use Rattle.net_link.proofs.writing.write_all.Given as goal

abbrev pub invariant-writing : goal.invariant-writing
invariant-writing g l = record {
  within : l.sent ≤ length l.bytes;
  later : g.K.Sink.faults l.fn.out ≤ g.K.Sink.faults l.out;
  told : g.K.Sink.tells → g.K.Sink.written l.out ≡ g.K.Sink.written l.fn.out ++ take l.sent l.bytes;
}

abbrev pub decreases-writing : goal.decreases-writing
decreases-writing g l = length l.bytes - l.sent
