use Rattle.std.proofs.Common.{◌≡◌, take}
use Rattle.std.specs.Prelude.{fold, map}
use Rattle.hello_reply.specs.Listed.{with_host, HasSeen}
use Rattle.hello_reply.proofs.ListedLemmas.{IsKept}
use Rattle.hello_reply.proofs.listed.keep.Given as goal

abbrev pub invariant-loop-host : goal.invariant-loop-host
invariant-loop-host l = IsKept l.seen (map (λ h. h.now) l.kept.items) (fold with_host (map (λ h. h.now) l.initial.kept.items) (take l.host-index l.hosts))
