-- What a value says where one kind is wanted; none where it is of another kind (bsonspec 1.1, element).
use Rattle.std.specs.Prelude.{ℕ, ℤ, List, Option, None, Some, codes}
use Rattle.std.specs.Option.{option_and_then}
use Rattle.bson_doc.specs.Documents.{value_of}
use Rattle.bson_doc.specs.declared.ids.Oid.{Oid}
use Rattle.bson_doc.specs.declared.name.Name.{Name}
use Rattle.bson_doc.specs.declared.topology_version.TopologyVersion.{TopologyVersion}
use Rattle.bson_doc.specs.declared.value.Document.{Document}
use Rattle.bson_doc.specs.declared.value.Value.{Value, Value-F, out-Value}
use Rattle.bson_doc.specs.declared.value.Value.TheVariants as value
use Rattle.bson_doc.specs.declared.value.Value.TheOpen as layer

-- A string.
abbrev pub text_of : Value → Option (List ℕ)
text_of (value.Str text) = Some text
text_of _ = None

-- A whole number, which is an int32 or an int64.
abbrev pub whole_of : Value → Option ℤ
whole_of (value.Int32 n) = Some n
whole_of (value.Int64 n) = Some n
whole_of _ = None

-- An int32 alone.
abbrev pub int32_of : Value → Option ℤ
int32_of (value.Int32 n) = Some n
int32_of _ = None

-- An int64 alone.
abbrev pub int64_of : Value → Option ℤ
int64_of (value.Int64 n) = Some n
int64_of _ = None

-- An ObjectId.
abbrev pub oid_of : Value → Option Oid
oid_of (value.Oid oid) = Some oid
oid_of _ = None

-- A timestamp.
abbrev pub stamp_of : Value → Option ℕ
stamp_of (value.Stamp stamp) = Some stamp
stamp_of _ = None

-- A document.
abbrev pub document_in : Value-F Value Document → Option Document
document_in (layer.Doc d) = Some d
document_in _ = None

abbrev pub document_of : Value → Option Document
document_of v = document_in (out-Value v)

-- The items of an array, in order.
abbrev pub items_in : Value-F Value Document → Option (List Value)
items_in (layer.Array items) = Some items
items_in _ = None

abbrev pub items_of : Value → Option (List Value)
items_of v = items_in (out-Value v)

-- A topology version, of its two parts.
abbrev pub version_from : Option Oid → Option ℤ → Option TopologyVersion
version_from (Some process) (Some counter) = Some (record { process = process; counter = counter })
version_from _ _ = None

-- The topology version in a document with processId, an ObjectId, and counter, an int64; other elements do not count (SDAM,
-- Topology Version).
abbrev pub version_in : List (Name × Value) → Option TopologyVersion
version_in es =
    version_from (option_and_then oid_of (value_of (codes "processId") es)) (option_and_then int64_of (value_of (codes "counter") es))

abbrev pub version_of : Value → Option TopologyVersion
version_of v = option_and_then (λ d. version_in d.elements) (document_of v)
