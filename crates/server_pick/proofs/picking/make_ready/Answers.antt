use Rattle.std.proofs.lemmas.List.Elements.{All-same}
use Rattle.server_pick.specs.Prepared.{IsTrueTo}
use Rattle.server_pick.specs.Sieves.{passes}
use Rattle.server_pick.proofs.MapLemmas.{candidates_true}
use Rattle.server_pick.proofs.picking.make_ready.Goals as goal

pub returns-clause-facts : goal.returns-clause-facts
returns-clause-facts g c =
    All-same (IsTrueTo c.args.topology.now.servers (g.L.Loads.load c.args.loads.now)) _ _ c.in_ok-candidates.ensures.candidates
    (candidates_true c.args.topology.now.servers (g.L.Loads.load c.args.loads.now) (passes c.suitable-sieve.result) c.in_ok-candidates.ensures.hosts)
