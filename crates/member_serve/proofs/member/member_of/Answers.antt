use Rattle.std.proofs.Common.{arith}
use Rattle.member_serve.proofs.HostLemmas.{loopback-within}
use Rattle.member_serve.proofs.member.member_of.Goals as goal

pub new-requires-clause-within : goal.new-requires-clause-within
new-requires-clause-within c = rw c.in_ok-host.ensures (loopback-within c.args.settings.now.set.now c.args.settings.now.port (omega arith) c.requires.set)
