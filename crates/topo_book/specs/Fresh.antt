-- Which events a topology takes (SDAM, topologyVersion comparison and generation checks).
use Rattle.std.specs.Prelude.{ℕ, Bool, true, false, not, if◌then◌else◌, nat_lt, Option, None, Some}
use Rattle.std.specs.FinMap as map
use Rattle.std.specs.Ordering.{is_lt, is_gt}
use Rattle.bson_doc.specs.declared.topology_version.TopologyVersion.{TopologyVersion}
use Rattle.hello_reply.specs.Versions.{version_order}
use Rattle.hello_reply.specs.declared.server_description.ServerDescription.{ServerDescription}
use Rattle.topo_rules.specs.declared.event.TopoEvent.{TopoEvent}
use Rattle.topo_rules.specs.declared.event.TopoEvent.TheVariants.{Reply, Broken, Refused}
use Rattle.topo_rules.specs.Maps.{ServerMap}
use Rattle.topo_rules.specs.Rules.{event_host}
use Rattle.topo_book.specs.declared.verdict.Verdict.{Verdict}
use Rattle.topo_book.specs.declared.verdict.Verdict.TheVariants.{Accepted, Gone, StaleVersion, StaleGeneration}

-- The topology version that came is behind the one that is kept: of a reply an older one (SDAM, topologyVersion
-- comparison), of an error also an equal one (own: the error tells nothing that the version does not tell already).
abbrev pub is_behind : Option TopologyVersion → TopoEvent → Bool
is_behind kept (Reply description sample) = is_gt (version_order kept description.version)
is_behind kept (Refused host version generation shutdown) = not (is_lt (version_order kept version))
is_behind kept (Broken host generation) = false

-- The topology version that an event brings.
abbrev pub event_version : TopoEvent → Option TopologyVersion
event_version (Reply description sample) = description.version
event_version (Refused host version generation shutdown) = version
event_version (Broken host generation) = None

-- The generation of the connection that an event came by; a check has none.
abbrev pub event_generation : TopoEvent → Option ℕ
event_generation (Reply description sample) = None
event_generation (Refused host version generation shutdown) = Some generation
event_generation (Broken host generation) = generation

-- An error by a connection whose generation is below the pool's is stale (SDAM, Why ignore errors based on
-- CMAP's generation).
abbrev pub by_generation : Option ℕ → ℕ → Verdict
by_generation None pool = Accepted
by_generation (Some came) pool = if nat_lt came pool then StaleGeneration pool came else Accepted

-- By the version that is kept, and then by the pool's generation.
abbrev pub by_version : Option TopologyVersion → TopoEvent → ℕ → Verdict
by_version kept event pool =
    if is_behind kept event then StaleVersion kept (event_version event) else by_generation (event_generation event) pool

abbrev pub by_kept : Option ServerDescription → TopoEvent → ℕ → Verdict
by_kept None event pool = Gone
by_kept (Some kept) event pool = by_version kept.version event pool

-- The answer to an event, from the servers and the generation of its host's pool: the first that holds of a host that is
-- not there, a stale version and a stale generation, else that it is accepted.
abbrev pub taken : ServerMap → TopoEvent → ℕ → Verdict
taken servers event pool = by_kept (map.get servers (event_host event)) event pool

abbrev pub is_accepted_verdict : Verdict → Bool
is_accepted_verdict Accepted = true
is_accepted_verdict _ = false
