use Rattle.std.proofs.Common.{◌≡◌, take}
use Rattle.conn_uri.proofs.copies.copy_hosts.Given as goal

abbrev pub invariant-loop-host : goal.invariant-loop-host
invariant-loop-host l = l.copies ≡ take l.host-index l.hosts
