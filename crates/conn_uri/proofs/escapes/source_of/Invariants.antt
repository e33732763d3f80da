use Rattle.std.proofs.Common.{◌≡◌, ◌-◌, ◌≤◌, length}
use Rattle.conn_uri.specs.Escapes.{behind_number}
use Rattle.conn_uri.proofs.escapes.source_of.Given as goal

abbrev pub invariant-loop : goal.invariant-loop
invariant-loop l = record {
  same : behind_number (l.number - l.counter) l.rest ≡ behind_number l.number l.text;
  counted : l.counter ≤ l.number;
  shorter : length l.rest ≤ length l.text;
}
