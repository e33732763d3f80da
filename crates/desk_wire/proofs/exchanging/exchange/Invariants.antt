use Rattle.std.proofs.Common.{◌≡◌, ◌≤◌}
use Rattle.net_link.specs.Keeps.{Keeps, all_but_inbox_of}
use Rattle.desk_wire.specs.Exchange.{Exchanges}
use Rattle.desk_wire.specs.State.{State}
use Rattle.desk_wire.specs.declared.answers.Pulled.TheVariants as pulled
use Rattle.desk_wire.proofs.exchanging.exchange.Given as goal

-- Bytes were sent and came, and no message is there yet.
abbrev pub invariant-exchanging : goal.invariant-exchanging
invariant-exchanging g l = record {
  kept : l.wire ≡ (let now : State = record l.fn.wire { unsent = l.wire.unsent; held = l.wire.held } in now);
  trades : Exchanges g.N.Net.tells l.fn.wire l.wire (g.N.Net.history l.fn.net) (g.N.Net.history l.net) pulled.Memory;
  later : g.N.Net.faults l.fn.net ≤ g.N.Net.faults l.net;
  keeps : Keeps (all_but_inbox_of l.fn.wire.stream) g.N.Net.tells g.N.Net.is_open g.N.Net.next g.N.Net.inbox g.N.Net.has_ended l.fn.net l.net;
}
