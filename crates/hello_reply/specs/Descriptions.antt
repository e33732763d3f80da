-- The description of a server that a hello reply gives (SDAM, ServerDescription; SDAM, Parsing a hello response).
use Rattle.std.specs.Prelude.{pos, ◌-◌, ◌^◌, min, nat_le, List, [], Option, None, Some, Result, Ok, Err, length, unwrap_or, if◌then◌else◌}
use Rattle.bson_doc.specs.declared.name.Name.{Name}
use Rattle.bson_doc.specs.declared.value.Value.{Value}
use Rattle.host_name.specs.Addresses.{Address}
use Rattle.hello_reply.specs.Fields.{first_fault, text_at, whole_at, oid_at, host_at, tags_at, version_at, size_at}
use Rattle.hello_reply.specs.Kinds.{is_ok, kind_of}
use Rattle.hello_reply.specs.Listed.{listed}
use Rattle.hello_reply.specs.declared.fault.ReplyFault.{ReplyFault}
use Rattle.hello_reply.specs.declared.fault.ReplyFault.TheVariants as fault
use Rattle.hello_reply.specs.declared.field_name.FieldName.{FieldName}
use Rattle.hello_reply.specs.declared.field_name.FieldName.TheVariants as field
use Rattle.hello_reply.specs.declared.server_description.ServerDescription.{ServerDescription}
use Rattle.hello_reply.specs.declared.server_kind.ServerKind.TheVariants as kind

-- A server of which nothing is known: Unknown, all else absent or its default (SDAM, ServerDescription: default values).
abbrev pub unknown : Address → ServerDescription
unknown host = record {
  host = host;
  kind = kind.Unknown;
  set_name = None;
  set_version = None;
  election = None;
  primary = None;
  me = None;
  listed = [];
  tags = [];
  min_wire = pos 0;
  max_wire = pos 0;
  session_minutes = None;
  version = None;
  max_doc = 16777216;
  max_message = 48000000;
  max_batch = 100000;
  mean = None;
}

-- What a reply without a fault says of its server. No reply tells the mean round trip time.
abbrev pub described : List (Name × Value) → Address → ServerDescription
described es host = record {
  host = host;
  kind = kind_of es;
  set_name = text_at field.SetName es;
  set_version = whole_at field.SetVersion es;
  election = oid_at field.ElectionId es;
  primary = host_at field.Primary es;
  me = host_at field.Me es;
  listed = listed es;
  tags = tags_at field.Tags es;
  min_wire = unwrap_or (whole_at field.MinWireVersion es) (pos 0);
  max_wire = unwrap_or (whole_at field.MaxWireVersion es) (pos 0);
  session_minutes = whole_at field.LogicalSessionTimeoutMinutes es;
  version = version_at field.TopologyVersion es;
  max_doc = unwrap_or (size_at field.MaxBsonObjectSize es) 16777216;
  max_message = unwrap_or (size_at field.MaxMessageSizeBytes es) 48000000;
  max_batch = unwrap_or (size_at field.MaxWriteBatchSize es) 100000;
  mean = None;
}

-- A field at fault is told before too many hosts are, and a description stands where neither comes (own: at most 1,000 hosts;
-- the count stands at the greatest number of 32 bits where it would pass that).
abbrev pub judged : Option FieldName → ServerDescription → Result ServerDescription ReplyFault
judged (Some f) d = Err (fault.Field f)
judged None d =
    if nat_le (length d.listed) 1000 then Ok d else Err (fault.Many (min (length d.listed) (2 ^ 32 - 1)))

-- The description or the first fault, of the reply's pairs. Where ok is not one nothing else of the reply is read.
abbrev pub describes : List (Name × Value) → Address → Result ServerDescription ReplyFault
describes es host = if is_ok es then judged (first_fault es) (described es host) else Ok (unknown host)
