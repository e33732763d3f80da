use Rattle.std.proofs.Common.{◌≡◌, ◌+◌, length}
use Rattle.conn_uri.specs.Escapes.{cut_from}
use Rattle.conn_uri.proofs.escapes.first_cut.Given as goal

abbrev pub invariant-loop-rest : goal.invariant-loop-rest
invariant-loop-rest l = record {
  same : cut_from l.place l.rest ≡ cut_from 0 l.text;
  counted : l.place + length l.rest ≡ length l.text;
}

abbrev pub decreases-loop-rest : goal.decreases-loop-rest
decreases-loop-rest l = length l.rest
