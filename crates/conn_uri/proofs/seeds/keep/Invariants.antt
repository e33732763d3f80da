use Rattle.std.proofs.Common.{◌≡◌, take}
use Rattle.std.specs.Prelude.{fold, map}
use Rattle.conn_uri.specs.Inside.{HasSeen}
use Rattle.conn_uri.specs.Seeds.{with_host}
use Rattle.conn_uri.proofs.SeedLemmas.{IsKept}
use Rattle.conn_uri.proofs.seeds.keep.Given as goal

abbrev pub invariant-loop-host : goal.invariant-loop-host
invariant-loop-host l = IsKept l.seen (map (λ h. h.now) l.kept.items) (fold with_host (map (λ h. h.now) l.initial.kept.items) (take l.host-index l.hosts))
