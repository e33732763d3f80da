use Rattle.std.proofs.Common.{ap, ◌∙◌}
use Rattle.topo_rules.specs.Maps.{kept_mean}
use Rattle.topo_rules.specs.declared.topology.Topology.{Topology}
use Rattle.desk_trail.specs.Legal.{beginning}
use Rattle.desk_trail.specs.Parts.{accepted_of}
use Rattle.desk_trail.proofs.TopologyLemmas.{topology-from}
use Rattle.desk_trail.proofs.laws.topology.means_are_of_samples.Goals as goal

pub returns : goal.returns
returns c client ts x l =
    ap (λ (t : Topology). kept_mean t.servers x) (topology-from client (beginning client) ts l)
    ∙ c.mean_is_of_samples.ensures client.settings.hosts client.settings.set_name client.settings.direct (accepted_of ts) x
