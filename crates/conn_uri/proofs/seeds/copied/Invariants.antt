use Rattle.std.proofs.Common.{◌≡◌, take}
use Rattle.std.specs.Prelude.{map}
use Rattle.conn_uri.proofs.seeds.copied.Given as goal

abbrev pub invariant-loop-host : goal.invariant-loop-host
invariant-loop-host l = l.copies ≡ map (λ h. h.now) (take l.host-index l.hosts)
