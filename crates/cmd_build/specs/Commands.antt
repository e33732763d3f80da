-- The documents that commands send (MongoDB, insert, update, delete, findAndModify, find). The order of the fields is own.
use Rattle.std.specs.Prelude.{ℕ, ℤ, pos, Bool, true, List, [], ◌∷◌, ◌++◌, map, codes, Option, None, Some, if◌then◌else◌}
use Rattle.std.specs.Option.{option_copied, option_map, option_map_or, option_or}
use Rattle.bson_doc.specs.declared.cluster_time.ClusterTime.{ClusterTime}
use Rattle.bson_doc.specs.declared.ids.Lsid.{Lsid}
use Rattle.bson_doc.specs.declared.name.Name.{Name}
use Rattle.bson_doc.specs.declared.value.Document.{Document}
use Rattle.bson_doc.specs.declared.value.Value.{Value, Array, Doc}
use Rattle.bson_doc.specs.declared.value.Value.TheVariants as value
use Rattle.read_pref.specs.Modes.{name_of}
use Rattle.read_pref.specs.Preferences.{Preference, is_primary_mode}
use Rattle.read_pref.specs.declared.mode.Mode.{Mode}
use Rattle.read_pref.specs.declared.tag.Tag.{Tag}
use Rattle.cmd_build.specs.Ops.{writes}
use Rattle.cmd_build.specs.declared.command.Act.{Act}
use Rattle.cmd_build.specs.declared.command.Act.TheVariants as act
use Rattle.cmd_build.specs.declared.command.Command.{Command}
use Rattle.cmd_build.specs.declared.extras.Extras.{Extras}

-- A pair of a document: a name and its value.
abbrev pub Field : Type 0
Field = Name × Value

-- A field that stands only where its value is given.
abbrev pub given : List ℕ → Option Value → List Field
given name None = []
given name (Some v) = (name, v) ∷ []

-- ---- What an act asks for

-- One update statement: which documents, the change, all of them, and whether one is added where none fits.
abbrev pub update_statement : Document → Document → Bool → Bool → Document
update_statement filter change multi upsert = record {
  elements =
      (codes "q", Doc filter)
      ∷ (codes "u", Doc change)
      ∷ (codes "multi", value.Bool multi)
      ∷ (codes "upsert", value.Bool upsert)
      ∷ [];
}

-- One delete statement: which documents, and how many, where 0 stands for all.
abbrev pub delete_statement : Document → Bool → Document
delete_statement filter all = record {
  elements =
      (codes "q", Doc filter)
      ∷ (codes "limit", value.Int32 (if all then pos 0 else pos 1))
      ∷ [];
}

-- What a findAndModify does with the document: changes it, or removes it.
abbrev pub modification : Option Document → Field
modification (Some change) = (codes "update", Doc change)
modification None = (codes "remove", value.Bool true)

-- The fields of an act on a collection, which stand first.
abbrev pub act_fields : List ℕ → Act → List Field
act_fields coll (act.Insert doc) =
    (codes "insert", value.Str coll)
    ∷ (codes "documents", Array (Doc doc ∷ []))
    ∷ (codes "ordered", value.Bool true)
    ∷ []
act_fields coll (act.Update filter change multi upsert) =
    (codes "update", value.Str coll)
    ∷ (codes "updates", Array (Doc (update_statement filter change multi upsert) ∷ []))
    ∷ (codes "ordered", value.Bool true)
    ∷ []
act_fields coll (act.Delete filter all) =
    (codes "delete", value.Str coll)
    ∷ (codes "deletes", Array (Doc (delete_statement filter all) ∷ []))
    ∷ (codes "ordered", value.Bool true)
    ∷ []
act_fields coll (act.FindAndModify filter change) =
    (codes "findAndModify", value.Str coll)
    ∷ (codes "query", Doc filter)
    ∷ modification change
    ∷ []
act_fields coll (act.Find filter read) =
    (codes "find", value.Str coll)
    ∷ (codes "filter", Doc filter)
    ∷ (codes "limit", value.Int32 (pos 1))
    ∷ (codes "singleBatch", value.Bool true)
    ∷ []

-- ---- What stands behind an act's fields

-- A write is acknowledged by a majority (Read and Write Concern).
abbrev pub majority : Document
majority = record { elements = (codes "w", value.Str (codes "majority")) ∷ [] }

-- The database of a command: its own, else the client's.
abbrev pub db_of : Option (List ℕ) → List ℕ → List ℕ
db_of None db = db
db_of (Some own) db = own

-- The mode that a find sends: the one given, unless it is primary, which is what a server does without being told (Server
-- Selection, Passing read preference). No other command sends one.
abbrev pub mode_of_find : Option Mode → Option Mode
mode_of_find None = None
mode_of_find (Some mode) = if is_primary_mode mode then None else Some mode

abbrev pub sent_mode : Act → Option Mode → Option Mode
sent_mode (act.Find filter read) mode = mode_of_find mode
sent_mode (act.Insert doc) mode = None
sent_mode (act.Update filter change multi upsert) mode = None
sent_mode (act.Delete filter all) mode = None
sent_mode (act.FindAndModify filter change) mode = None

-- The tag sets that go out: those of the command's own preference, else of the client's.
abbrev pub own_preference : Act → Option Preference
own_preference (act.Find filter read) = read
own_preference (act.Insert doc) = None
own_preference (act.Update filter change multi upsert) = None
own_preference (act.Delete filter all) = None
own_preference (act.FindAndModify filter change) = None

abbrev pub sent_tags : Act → Option Preference → List (List Tag)
sent_tags act read = option_map_or (λ p. p.tag_sets) (option_or (own_preference act) read) []

-- Tags as a document, each tag's value under its name.
abbrev pub tag_field : Tag → Field
tag_field t = (t.name, value.Str t.value)

abbrev pub tag_document : List Tag → Document
tag_document tags = record { elements = map tag_field tags }

abbrev pub tag_value : List Tag → Value
tag_value tags = Doc (tag_document tags)

-- The tag sets in the order in which they are tried; none stand where there are none.
abbrev pub tag_sets_field : List (List Tag) → List Field
tag_sets_field [] = []
tag_sets_field (set ∷ sets) = (codes "tags", Array (map tag_value (set ∷ sets))) ∷ []

-- A read preference as it is sent (Server Selection, read preference document).
abbrev pub preference_document : List (List Tag) → Mode → Document
preference_document sets mode = record { elements = (codes "mode", value.Str (name_of mode)) ∷ tag_sets_field sets }

-- A session's id, a UUID of the subtype 4 (Driver Sessions, lsid; bsonspec 1.1, binary).
abbrev pub session : Lsid → Document
session id = record { elements = (codes "id", value.Binary 4 id.0) ∷ [] }

-- The values of the fields that do not stand in every command: the write concern of a write, the read preference of a find, the
-- session's id, the transaction number (Retryable Writes, txnNumber), and the cluster time as the server sent it.
abbrev pub concern_of : Act → Option Value
concern_of act = if writes act then Some (Doc majority) else None

abbrev pub preference_of : Act → Extras → Option Value
preference_of act extras =
    option_map (λ mode. Doc (preference_document (sent_tags act (option_copied extras.read)) mode)) (sent_mode act extras.mode)

abbrev pub session_of : Option Lsid → Option Value
session_of lsid = option_map (λ id. Doc (session id)) lsid

abbrev pub number_of : Option ℤ → Option Value
number_of number = option_map (λ n. value.Int64 n) number

abbrev pub time_of : Option ClusterTime → Option Value
time_of time = option_map (λ t. Doc t.body) time

-- Nothing beside what the command asks for.
abbrev pub no_extras : Extras
no_extras = record { lsid = None; number = None; mode = None; read = None }

-- ---- The whole

-- What a command sends from a client of that database: its act's fields, and those that stand in every command or where they
-- are given.
abbrev pub command_fields : Command → List ℕ → Extras → Option ClusterTime → List Field
command_fields c db extras time =
    act_fields c.coll c.act
    ++ given (codes "writeConcern") (concern_of c.act)
    ++ (codes "apiVersion", value.Str (codes "1"))
    ∷ (codes "$db", value.Str (db_of c.db db))
    ∷ given (codes "$readPreference") (preference_of c.act extras)
    ++ given (codes "lsid") (session_of extras.lsid)
    ++ given (codes "txnNumber") (number_of extras.number)
    ++ given (codes "$clusterTime") (time_of time)

abbrev pub command_document : Command → List ℕ → Extras → Option ClusterTime → Document
command_document c db extras time = record { elements = command_fields c db extras time }
