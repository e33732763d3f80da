use Rattle.trail_laws.proofs.HostLemmas.{AreNumbered-behind}
use Rattle.trail_laws.proofs.hosts.each_host_of_the_topology_has_its_number.Goals as goal

pub returns : goal.returns
returns c client ts l paid = AreNumbered-behind client ts l paid
