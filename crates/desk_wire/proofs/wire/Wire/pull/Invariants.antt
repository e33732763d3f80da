use Rattle.std.proofs.Common.{◌≤◌, ◌-◌, length}
use Rattle.net_link.specs.Keeps.{Keeps, all_but_inbox_of}
use Rattle.desk_wire.proofs.PullLemmas.{Meanwhile, SameBut}
use Rattle.desk_wire.proofs.wire.Wire.pull.Given as goal

-- What came is held behind what was held.
abbrev pub invariant-pulling : goal.invariant-pulling
invariant-pulling g l = record {
  kept : SameBut l.fn.self l.self;
  comes : Meanwhile g.N.Net.tells l.fn.self.stream l.fn.self.held l.self.held (g.N.Net.history l.fn.net) (g.N.Net.history l.net)
      (g.N.Net.inbox l.fn.net l.fn.self.stream) (g.N.Net.inbox l.net l.fn.self.stream);
  later : g.N.Net.faults l.fn.net ≤ g.N.Net.faults l.net;
  keeps : Keeps (all_but_inbox_of l.fn.self.stream) g.N.Net.tells g.N.Net.is_open g.N.Net.next g.N.Net.inbox g.N.Net.has_ended l.fn.net l.net;
}

-- How many more bytes a message may have.
abbrev pub decreases-pulling : goal.decreases-pulling
decreases-pulling g l = 48000000 - length l.self.held
