-- What a kind of server says of it (SDAM, ServerType).
use Rattle.std.specs.Prelude.{Bool, true, false}
use Rattle.hello_reply.specs.declared.server_description.ServerDescription.{ServerDescription}
use Rattle.hello_reply.specs.declared.server_kind.ServerKind.{ServerKind}
use Rattle.hello_reply.specs.declared.server_kind.ServerKind.TheVariants as server

-- Another kind than Unknown: a reply told it, and nothing has put an Unknown in its place since.
abbrev pub is_known_kind : ServerKind → Bool
is_known_kind server.Unknown = false
is_known_kind _ = true

-- The server bears data: a primary, a secondary, a mongos or a standalone (SDAM, Terms: data-bearing server).
abbrev pub bears_data_kind : ServerKind → Bool
bears_data_kind server.Primary = true
bears_data_kind server.Secondary = true
bears_data_kind server.Mongos = true
bears_data_kind server.Standalone = true
bears_data_kind _ = false

abbrev pub is_primary_kind : ServerKind → Bool
is_primary_kind server.Primary = true
is_primary_kind _ = false

abbrev pub is_known : ServerDescription → Bool
is_known d = is_known_kind d.kind

abbrev pub bears_data : ServerDescription → Bool
bears_data d = bears_data_kind d.kind

abbrev pub is_primary : ServerDescription → Bool
is_primary d = is_primary_kind d.kind
