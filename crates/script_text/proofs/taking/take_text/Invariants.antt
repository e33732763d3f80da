use Rattle.std.proofs.Common.{◌≡◌, ◌≤◌, ◌-◌, ◌++◌, length}
use Rattle.script_text.proofs.taking.take_text.Given as goal

abbrev pub invariant-pieces : goal.invariant-pieces
invariant-pieces g l = record {
  size : length l.bytes.items ≤ 16777217;
  later : g.S.Source.faults l.fn.source ≤ g.S.Source.faults l.source;
  front : g.S.Source.tells → g.S.Source.left l.fn.source ≡ l.bytes.items ++ g.S.Source.left l.source;
}

abbrev pub decreases-pieces : goal.decreases-pieces
decreases-pieces g l = 16777217 - length l.bytes.items
