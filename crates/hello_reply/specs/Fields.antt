-- The table of the fields that a description is read from, and what a reply says in them (SDAM, Parsing a hello response).
use Rattle.std.specs.Prelude.{ℕ, ℤ, pos, negsuc, Bool, false, not, List, [], ◌∷◌, Option, None, Some, find, unwrap_or, unsigned_abs, codes}
use Rattle.std.specs.Option.{option_map, option_map_or, option_and_then}
use Rattle.bson_doc.specs.Documents.{value_of}
use Rattle.bson_doc.specs.Readings.{text_of, oid_of, version_of}
use Rattle.bson_doc.specs.declared.ids.Oid.{Oid}
use Rattle.bson_doc.specs.declared.name.Name.{Name}
use Rattle.bson_doc.specs.declared.topology_version.TopologyVersion.{TopologyVersion}
use Rattle.bson_doc.specs.declared.value.Value.{Value}
use Rattle.bson_doc.specs.declared.value.Value.TheVariants as value
use Rattle.host_name.specs.Addresses.{Address}
use Rattle.hello_reply.specs.Columns.{whole_in, host_of, hosts_of, tags_of, fits}
use Rattle.hello_reply.specs.declared.column.Column.{Column}
use Rattle.hello_reply.specs.declared.column.Column.TheVariants as column
use Rattle.hello_reply.specs.declared.field_name.FieldName.{FieldName}
use Rattle.hello_reply.specs.declared.field_name.FieldName.TheVariants as field
use Rattle.hello_reply.specs.declared.tag.Tag.{Tag}

-- The fields, in the order in which faults are sought (own).
abbrev pub fields : List FieldName
fields =
    field.SetName ∷ field.SetVersion ∷ field.ElectionId ∷ field.Primary ∷ field.Me ∷ field.Hosts ∷ field.Passives ∷ field.Arbiters
    ∷ field.Tags ∷ field.MinWireVersion ∷ field.MaxWireVersion ∷ field.LogicalSessionTimeoutMinutes ∷ field.TopologyVersion
    ∷ field.MaxBsonObjectSize ∷ field.MaxMessageSizeBytes ∷ field.MaxWriteBatchSize ∷ []

-- The field's name in the reply (SDAM, ServerDescription).
abbrev pub name_of : FieldName → List ℕ
name_of field.SetName = codes "setName"
name_of field.SetVersion = codes "setVersion"
name_of field.ElectionId = codes "electionId"
name_of field.Primary = codes "primary"
name_of field.Me = codes "me"
name_of field.Hosts = codes "hosts"
name_of field.Passives = codes "passives"
name_of field.Arbiters = codes "arbiters"
name_of field.Tags = codes "tags"
name_of field.MinWireVersion = codes "minWireVersion"
name_of field.MaxWireVersion = codes "maxWireVersion"
name_of field.LogicalSessionTimeoutMinutes = codes "logicalSessionTimeoutMinutes"
name_of field.TopologyVersion = codes "topologyVersion"
name_of field.MaxBsonObjectSize = codes "maxBsonObjectSize"
name_of field.MaxMessageSizeBytes = codes "maxMessageSizeBytes"
name_of field.MaxWriteBatchSize = codes "maxWriteBatchSize"

-- Whole numbers of 64 and of 32 bits, minutes, counts of bytes and counts of documents (own: the bounds).
abbrev pub whole : Column
whole = column.Whole (negsuc 9223372036854775807) (pos 9223372036854775807)

abbrev pub short : Column
short = column.Whole (negsuc 2147483647) (pos 2147483647)

abbrev pub minutes : Column
minutes = column.Whole (pos 0) (pos 1000000)

abbrev pub bytes : Column
bytes = column.Whole (pos 1) (pos 48000000)

abbrev pub documents : Column
documents = column.Whole (pos 1) (pos 100000)

-- What the field's value must be (SDAM, ServerDescription).
abbrev pub column_of : FieldName → Column
column_of field.SetName = column.Text
column_of field.SetVersion = whole
column_of field.ElectionId = column.ObjectId
column_of field.Primary = column.Host
column_of field.Me = column.Host
column_of field.Hosts = column.Hosts
column_of field.Passives = column.Hosts
column_of field.Arbiters = column.Hosts
column_of field.Tags = column.Tags
column_of field.MinWireVersion = short
column_of field.MaxWireVersion = short
column_of field.LogicalSessionTimeoutMinutes = minutes
column_of field.TopologyVersion = column.Version
column_of field.MaxBsonObjectSize = bytes
column_of field.MaxMessageSizeBytes = bytes
column_of field.MaxWriteBatchSize = documents

-- Null says as much as no field at all.
abbrev pub not_null : Value → Option Value
not_null value.Null = None
not_null v = Some v

-- The field's value, none where the reply has no such field, or Null first (own: of several of one name the first counts).
abbrev pub given : FieldName → List (Name × Value) → Option Value
given f es = option_and_then not_null (value_of (name_of f) es)

-- The field is there with a value that does not belong in its column.
abbrev pub is_at_fault : FieldName → List (Name × Value) → Bool
is_at_fault f es = option_map_or (λ v. not (fits (column_of f) v)) (given f es) false

-- The first field at fault.
abbrev pub first_fault : List (Name × Value) → Option FieldName
first_fault es = find (λ f. is_at_fault f es) fields

-- What a field says, by the kind of its column; none where it is absent, Null or at fault.
abbrev pub text_at : FieldName → List (Name × Value) → Option (List ℕ)
text_at f es = option_and_then text_of (given f es)

abbrev pub whole_at : FieldName → List (Name × Value) → Option ℤ
whole_at f es = option_and_then (whole_in (column_of f)) (given f es)

abbrev pub oid_at : FieldName → List (Name × Value) → Option Oid
oid_at f es = option_and_then oid_of (given f es)

abbrev pub host_at : FieldName → List (Name × Value) → Option Address
host_at f es = option_and_then host_of (given f es)

abbrev pub hosts_at : FieldName → List (Name × Value) → List Address
hosts_at f es = unwrap_or (option_and_then hosts_of (given f es)) []

abbrev pub tags_at : FieldName → List (Name × Value) → List Tag
tags_at f es = unwrap_or (option_and_then tags_of (given f es)) []

abbrev pub version_at : FieldName → List (Name × Value) → Option TopologyVersion
version_at f es = option_and_then version_of (given f es)

-- The columns of sizes have no negative numbers.
abbrev pub size_at : FieldName → List (Name × Value) → Option ℕ
size_at f es = option_map unsigned_abs (whole_at f es)
