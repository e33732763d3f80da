use Rattle.std.proofs.Common.{◌≡◌, drop, filter}
use Rattle.std.specs.FinMap as map
use Rattle.server_pick.specs.Sieves.{lets}
use Rattle.server_pick.specs.Tags.{deciding}
use Rattle.server_pick.proofs.suitable.tagged.Given as goal

abbrev pub invariant-loop-tags : goal.invariant-loop-tags
invariant-loop-tags l =
    deciding (drop l.tags-index l.tag_sets) (filter (lets l.kinds) (map.values l.topology.servers))
    ≡ deciding l.tag_sets (filter (lets l.kinds) (map.values l.topology.servers))
