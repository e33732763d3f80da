-- The table of SDAM, TopologyType table: what to do at a kind of topology and the kind of the new description.
use Rattle.hello_reply.specs.declared.server_kind.ServerKind.{ServerKind}
use Rattle.hello_reply.specs.declared.server_kind.ServerKind.TheVariants as server
use Rattle.topo_rules.specs.declared.kind.TopoKind.{TopoKind}
use Rattle.topo_rules.specs.declared.kind.TopoKind.TheVariants as topo
use Rattle.topo_rules.specs.declared.cell.Cell.{Cell}
use Rattle.topo_rules.specs.declared.cell.Cell.TheVariants.{UpdateSingle, Keep, Remove, UpdateUnknownWithStandalone, BecomeSharded, BecomeWithPrimary, BecomeNoPrimary, UpdateFromPrimary, UpdateWithoutPrimary, UpdateWithPrimaryFromMember, CheckIfHasPrimary, RemoveAndCheck}

abbrev pub unknown_row : ServerKind → Cell
unknown_row server.Unknown = Keep
unknown_row server.Standalone = UpdateUnknownWithStandalone
unknown_row server.Mongos = BecomeSharded
unknown_row server.Primary = BecomeWithPrimary
unknown_row server.Secondary = BecomeNoPrimary
unknown_row server.Arbiter = BecomeNoPrimary
unknown_row server.Other = BecomeNoPrimary
unknown_row server.Ghost = Keep

abbrev pub sharded_row : ServerKind → Cell
sharded_row server.Unknown = Keep
sharded_row server.Standalone = Remove
sharded_row server.Mongos = Keep
sharded_row server.Primary = Remove
sharded_row server.Secondary = Remove
sharded_row server.Arbiter = Remove
sharded_row server.Other = Remove
sharded_row server.Ghost = Remove

abbrev pub no_primary_row : ServerKind → Cell
no_primary_row server.Unknown = Keep
no_primary_row server.Standalone = Remove
no_primary_row server.Mongos = Remove
no_primary_row server.Primary = BecomeWithPrimary
no_primary_row server.Secondary = UpdateWithoutPrimary
no_primary_row server.Arbiter = UpdateWithoutPrimary
no_primary_row server.Other = UpdateWithoutPrimary
no_primary_row server.Ghost = Keep

abbrev pub with_primary_row : ServerKind → Cell
with_primary_row server.Unknown = CheckIfHasPrimary
with_primary_row server.Standalone = RemoveAndCheck
with_primary_row server.Mongos = RemoveAndCheck
with_primary_row server.Primary = UpdateFromPrimary
with_primary_row server.Secondary = UpdateWithPrimaryFromMember
with_primary_row server.Arbiter = UpdateWithPrimaryFromMember
with_primary_row server.Other = UpdateWithPrimaryFromMember
with_primary_row server.Ghost = CheckIfHasPrimary

-- The cell. In Single the kind of the server plays no part.
abbrev pub cell_of : TopoKind → ServerKind → Cell
cell_of topo.Single kind = UpdateSingle
cell_of topo.Unknown kind = unknown_row kind
cell_of topo.Sharded kind = sharded_row kind
cell_of topo.NoPrimary kind = no_primary_row kind
cell_of topo.WithPrimary kind = with_primary_row kind
