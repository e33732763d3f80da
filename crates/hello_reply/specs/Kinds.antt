-- What kind of server a reply comes from (SDAM, Parsing a hello response, type).
use Rattle.std.specs.Prelude.{ℕ, Bool, false, List, is_some, codes, if◌then◌else◌}
use Rattle.std.specs.Option.{option_map_or}
use Rattle.bson_doc.specs.Documents.{is_one, is_text, value_of}
use Rattle.bson_doc.specs.declared.name.Name.{Name}
use Rattle.bson_doc.specs.declared.value.Value.{Value}
use Rattle.bson_doc.specs.declared.value.Value.TheVariants as value
use Rattle.hello_reply.specs.Fields.{given}
use Rattle.hello_reply.specs.declared.field_name.FieldName.TheVariants as field
use Rattle.hello_reply.specs.declared.server_kind.ServerKind.{ServerKind}
use Rattle.hello_reply.specs.declared.server_kind.ServerKind.TheVariants as kind

-- The reply says that hello succeeded: its ok is one.
abbrev pub is_ok : List (Name × Value) → Bool
is_ok es = option_map_or is_one (value_of (codes "ok") es) false

-- The value is the boolean true; a value of another kind is not.
abbrev pub is_true : Value → Bool
is_true (value.Bool truth) = truth
is_true _ = false

-- The reply has true under that name.
abbrev pub says : List ℕ → List (Name × Value) → Bool
says name es = option_map_or is_true (value_of name es) false

-- The value is that string.
abbrev pub is_string : List ℕ → Value → Bool
is_string text (value.Str found) = is_text found text
is_string text _ = false

-- The reply is a router's: its msg is "isdbgrid".
abbrev pub is_router : List (Name × Value) → Bool
is_router es = option_map_or (is_string (codes "isdbgrid")) (value_of (codes "msg") es) false

-- A member of a replica set. A hidden one counts as Other, whatever else it is (SDAM: hidden members are RSOther).
abbrev pub member_kind : List (Name × Value) → ServerKind
member_kind es =
    if says (codes "hidden") es then kind.Other
    else (if says (codes "isWritablePrimary") es then kind.Primary
    else (if says (codes "secondary") es then kind.Secondary
    else (if says (codes "arbiterOnly") es then kind.Arbiter
    else kind.Other)))

-- The kind, of a reply whose ok is one: RSGhost, a member of a replica set, Mongos or Standalone, by the first test that holds.
abbrev pub kind_of : List (Name × Value) → ServerKind
kind_of es =
    if says (codes "isreplicaset") es then kind.Ghost
    else (if is_some (given field.SetName es) then member_kind es
    else (if is_router es then kind.Mongos
    else kind.Standalone))
