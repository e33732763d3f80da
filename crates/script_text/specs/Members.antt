-- The table of the members that a command's line has (own): their names, and the commands that they are for.
use Rattle.std.specs.Prelude.{ℕ, Bool, true, false, ◌&&◌, List, [], ◌∷◌, Option, find, codes}
use Rattle.std.specs.Option.{option_map_or}
use Rattle.bson_doc.specs.Documents.{is_text}
use Rattle.serde_json.specs.Data.{Data, object, Members, no_members, member}
use Rattle.cmd_build.specs.declared.op.Op.{Op}
use Rattle.cmd_build.specs.declared.op.Op.TheVariants as op
use Rattle.script_text.specs.declared.member.Member.{Member}
use Rattle.script_text.specs.declared.member.Member.TheVariants as line

-- All members.
abbrev pub members : List Member
members =
    line.Lane ∷ line.Op ∷ line.Coll ∷ line.Db ∷ line.Doc ∷ line.Filter ∷ line.Change ∷ line.Multi ∷ line.Upsert ∷ line.Limit
    ∷ line.Remove ∷ line.Mode ∷ line.Tags ∷ []

-- The member's name.
abbrev pub name_of : Member → List ℕ
name_of line.Lane = codes "lane"
name_of line.Op = codes "op"
name_of line.Coll = codes "coll"
name_of line.Db = codes "db"
name_of line.Doc = codes "doc"
name_of line.Filter = codes "filter"
name_of line.Change = codes "change"
name_of line.Multi = codes "multi"
name_of line.Upsert = codes "upsert"
name_of line.Limit = codes "limit"
name_of line.Remove = codes "remove"
name_of line.Mode = codes "mode"
name_of line.Tags = codes "tags"

-- The commands.
abbrev pub is_insert : Op → Bool
is_insert op.Insert = true
is_insert _ = false

abbrev pub has_filter : Op → Bool
has_filter op.Insert = false
has_filter _ = true

abbrev pub has_change : Op → Bool
has_change op.Update = true
has_change op.FindAndModify = true
has_change _ = false

abbrev pub is_update : Op → Bool
is_update op.Update = true
is_update _ = false

abbrev pub is_delete : Op → Bool
is_delete op.Delete = true
is_delete _ = false

abbrev pub is_find_and_modify : Op → Bool
is_find_and_modify op.FindAndModify = true
is_find_and_modify _ = false

abbrev pub is_find : Op → Bool
is_find op.Find = true
is_find _ = false

-- The line of such a command may have the member.
abbrev pub is_of : Op → Member → Bool
is_of o line.Lane = true
is_of o line.Op = true
is_of o line.Coll = true
is_of o line.Db = true
is_of o line.Doc = is_insert o
is_of o line.Filter = has_filter o
is_of o line.Change = has_change o
is_of o line.Multi = is_update o
is_of o line.Upsert = is_update o
is_of o line.Limit = is_delete o
is_of o line.Remove = is_find_and_modify o
is_of o line.Mode = is_find o
is_of o line.Tags = is_find o

-- The member of that name.
abbrev pub member_named : List ℕ → Option Member
member_named name = find (λ m. is_text (name_of m) name) members

-- A name is one that the line of such a command may have.
abbrev pub is_name_of : Op → List ℕ → Bool
is_name_of o name = option_map_or (λ m. is_of o m) (member_named name) false

-- Each of them is.
abbrev pub are_of : Op → Members → Bool
are_of o no_members = true
are_of o (member k d ms) = is_name_of o k && are_of o ms

-- The value is an object whose members are all for that command.
abbrev pub has_members_of : Op → Data → Bool
has_members_of o (object ms) = are_of o ms
has_members_of o _ = false
