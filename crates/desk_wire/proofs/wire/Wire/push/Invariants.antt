use Rattle.std.proofs.Common.{◌≤◌, length}
use Rattle.net_link.specs.Keeps.{Keeps, all}
use Rattle.desk_wire.specs.Push.{Pushes}
use Rattle.desk_wire.specs.declared.answers.Pushed.TheVariants as pushed
use Rattle.desk_wire.proofs.PushLemmas.{SameBut}
use Rattle.desk_wire.proofs.wire.Wire.push.Given as goal

-- The front of what was unsent is sent.
abbrev pub invariant-pushing : goal.invariant-pushing
invariant-pushing g l = record {
  kept : SameBut l.fn.self l.self;
  sends : Pushes g.N.Net.tells l.fn.self.stream l.fn.self.unsent l.self.unsent (g.N.Net.history l.fn.net) (g.N.Net.history l.net) pushed.Memory;
  later : g.N.Net.faults l.fn.net ≤ g.N.Net.faults l.net;
  keeps : Keeps all g.N.Net.tells g.N.Net.is_open g.N.Net.next g.N.Net.inbox g.N.Net.has_ended l.fn.net l.net;
}

abbrev pub decreases-pushing : goal.decreases-pushing
decreases-pushing g l = length l.self.unsent
