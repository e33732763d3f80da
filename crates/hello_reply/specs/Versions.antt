-- Which of two topology versions is the older (SDAM, Topology Version comparison).
use Rattle.std.specs.Prelude.{◌==◌, Option, Some, if◌then◌else◌}
use Rattle.std.specs.Cmp.Lexicographic.{pointwise}
use Rattle.std.specs.Ordering.{int_cmp}
use Rattle.std.specs.declared.cmp.Ordering.{Ordering}
use Rattle.std.specs.declared.cmp.Ordering.TheVariants.{Less}
use Rattle.bson_doc.specs.declared.topology_version.TopologyVersion.{TopologyVersion}

-- The first is taken for the older where one of the two is absent or their processes differ; else their counters decide.
abbrev pub version_order : Option TopologyVersion → Option TopologyVersion → Ordering
version_order (Some a) (Some b) = if pointwise ◌==◌ a.process.0 b.process.0 then int_cmp a.counter b.counter else Less
version_order _ _ = Less
