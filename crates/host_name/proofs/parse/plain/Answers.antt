use Rattle.std.proofs.Common.{arith}
use Rattle.std.proofs.lemmas.Grind.{common_steps}
use Rattle.host_name.proofs.HostLemmas.{IsHost-lower}
use Rattle.host_name.proofs.parse.plain.Goals as goal

pub new-requires : goal.new-requires
new-requires c = IsHost-lower _ _ _ c.in-Ok.ensures.ok (grind (arith, common_steps)) c.in-Some-port_in.ensures.at_least_one
