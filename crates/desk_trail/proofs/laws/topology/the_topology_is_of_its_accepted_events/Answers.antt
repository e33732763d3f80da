use Rattle.desk_trail.specs.Legal.{beginning}
use Rattle.desk_trail.proofs.TopologyLemmas.{topology-from}
use Rattle.desk_trail.proofs.laws.topology.the_topology_is_of_its_accepted_events.Goals as goal

pub returns : goal.returns
returns c client ts l = topology-from client (beginning client) ts l
