-- What a value must be in a column of the table of fields, and what it means there (SDAM, ServerDescription; bsonspec 1.1,
-- element). Each meaning is none where the value does not belong in the column.
use Rattle.std.specs.Prelude.{ℤ, ◌≤ℤ◌, Bool, ◌&&◌, int_le, List, Option, None, Some, is_some, if◌then◌else◌}
use Rattle.std.specs.Option.{option_and_then}
use Rattle.std.specs.Result.{result_ok}
use Rattle.bson_doc.specs.Readings.{text_of, whole_of, oid_of, document_of, items_of, version_of}
use Rattle.bson_doc.specs.declared.name.Name.{Name}
use Rattle.bson_doc.specs.declared.value.Value.{Value}
use Rattle.host_name.specs.Addresses.{Address}
use Rattle.host_name.specs.Reading.{reading}
use Rattle.hello_reply.specs.Each.{each_or_none}
use Rattle.hello_reply.specs.declared.column.Column.{Column}
use Rattle.hello_reply.specs.declared.column.Column.TheVariants as column
use Rattle.hello_reply.specs.declared.tag.Tag.{Tag}

-- A number, where it lies from the least to the most.
abbrev pub within : ℤ → ℤ → ℤ → Option ℤ
within least most n = if int_le least n && int_le n most then Some n else None

-- A string that spells a host (Connection String, Host Information), with its name in lower case.
abbrev pub host_of : Value → Option Address
host_of v = option_and_then (λ text. result_ok (reading text)) (text_of v)

-- An array of such strings.
abbrev pub hosts_of : Value → Option (List Address)
hosts_of v = option_and_then (each_or_none host_of) (items_of v)

-- A tag: an element whose value is a string.
abbrev pub tag_of : Name × Value → Option Tag
tag_of e = option_and_then (λ text. Some (record { name = e.0; value = text })) (text_of e.1)

-- A document of strings.
abbrev pub tags_of : Value → Option (List Tag)
tags_of v = option_and_then (λ d. each_or_none tag_of d.elements) (document_of v)

-- A whole number within the column's bounds.
abbrev pub whole_in : Column → Value → Option ℤ
whole_in (column.Whole least most) v = option_and_then (within least most) (whole_of v)
whole_in _ v = None

-- The number lies within the column's bounds.
abbrev pub IsWithin : Column → ℤ → Type 0
IsWithin (column.Whole least most) n = (least ≤ℤ n) × (n ≤ℤ most)
IsWithin _ n = ⊥

-- Whether the value belongs in the column.
abbrev pub fits : Column → Value → Bool
fits column.Text v = is_some (text_of v)
fits (column.Whole least most) v = is_some (whole_in (column.Whole least most) v)
fits column.ObjectId v = is_some (oid_of v)
fits column.Host v = is_some (host_of v)
fits column.Hosts v = is_some (hosts_of v)
fits column.Tags v = is_some (tags_of v)
fits column.Version v = is_some (version_of v)
