-- What holds of every selection.
use Rattle.std.specs.Prelude.{◌≡◌, ◌≤◌, ◌+◌, ◌⊎◌, ℕ, true, List}
use Rattle.std.specs.List.{All, Contains}
use Rattle.host_name.specs.Addresses.{Address}
use Rattle.hello_reply.specs.declared.server_kind.ServerKind.{ServerKind}
use Rattle.hello_reply.specs.declared.server_kind.ServerKind.TheVariants as server
use Rattle.topo_rules.specs.Kinds.{is_known_kind}
use Rattle.topo_rules.specs.Maps.{ServerMap}
use Rattle.topo_rules.specs.declared.kind.TopoKind.{TopoKind}
use Rattle.topo_rules.specs.declared.kind.TopoKind.TheVariants as topo
use Rattle.server_pick.specs.Picks.{mean_of}
use Rattle.server_pick.specs.declared.candidate.Candidate.{Candidate}

-- The host was kept, and its mean is longer than no kept one's by more than the threshold (Server Selection, Selecting servers
-- within the latency window).
pub record IsNear (m : ServerMap) (threshold : ℕ) (kept : List Address) (host : Address) : Type 0 where
  pub there : Contains kept host
  pub near : All (λ other. mean_of m host ≤ mean_of m other + threshold) kept

-- The host is that of a candidate.
abbrev pub IsOfCandidate : List Candidate → Address → Type 0
IsOfCandidate cs host = (c : Candidate) × Contains cs c × (c.host ≡ host)

-- Which kinds of servers a topology of this kind sends writes to (Server Selection, Topology types: the primary of a set, every
-- mongos, and a single server whatever it is once it is known).
abbrev pub TakesWrites : TopoKind → ServerKind → Type 0
TakesWrites topo.Unknown kind = ⊥
TakesWrites topo.Single kind = is_known_kind kind ≡ true
TakesWrites topo.Sharded kind = kind ≡ server.Mongos
TakesWrites topo.NoPrimary kind = kind ≡ server.Primary
TakesWrites topo.WithPrimary kind = kind ≡ server.Primary

-- The topology is a replica set's.
abbrev pub IsSet : TopoKind → Type 0
IsSet kind = (kind ≡ topo.NoPrimary) ⊎ (kind ≡ topo.WithPrimary)

-- The server is a member of a replica set that bears data.
abbrev pub BearsSetData : ServerKind → Type 0
BearsSetData kind = (kind ≡ server.Primary) ⊎ (kind ≡ server.Secondary)
