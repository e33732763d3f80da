use Rattle.std.proofs.Common.{◌≡◌, false}
use Rattle.wire_tests.proofs.of_desk_wire.pulling.take_five.Given as goal

-- The wire may be pulled.
abbrev pub invariant-taking : goal.invariant-taking
invariant-taking g l = record {
  live : l.wire.is_shut ≡ false;
  opened : g.N.Net.is_open l.net l.wire.stream;
}
