use Rattle.std.specs.Prelude.{◌≡◌, map, take}
use Rattle.member_core.specs.Replies.{host_value}
use Rattle.member_core.proofs.hello_reply.host_values.Given as goal

abbrev pub invariant-loop-host : goal.invariant-loop-host
invariant-loop-host l = l.items ≡ map host_value (take l.host-index l.hosts)
