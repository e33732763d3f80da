-- What only private functions cite: the parts in which a command's fields are written, and what stops a writer of them.
use Rattle.std.specs.Prelude.{◌≡◌, ◌≤◌, ◌<◌, ℕ, true, pos, List, [], ◌∷◌, ◌++◌, length, codes, Option}
use Rattle.std.specs.List.{AllByRecursion}
use Rattle.bson_doc.specs.Documents.{depth_of}
use Rattle.bson_doc.specs.declared.cluster_time.ClusterTime.{ClusterTime}
use Rattle.bson_doc.specs.declared.kind.Kind.TheVariants as kinds
use Rattle.bson_doc.specs.declared.value.Document.{Document}
use Rattle.bson_doc.specs.declared.value.Value.{Doc}
use Rattle.bson_doc.specs.declared.value.Value.TheVariants as value
use Rattle.bson_wire.specs.Limits.{most_bytes, most_levels}
use Rattle.bson_wire.specs.Spelled.{spelled}
use Rattle.bson_wire.specs.Writes.{Begins, Ends, Writes}
use Rattle.bson_wire.specs.Written.{ElementSpells}
use Rattle.bson_wire.specs.declared.fault.EncodeFault.{EncodeFault}
use Rattle.bson_wire.specs.declared.fault.EncodeFault.TheVariants as fault
use Rattle.cmd_build.specs.Commands.{Field, act_fields, concern_of, db_of, given, number_of, preference_of, session_of, time_of}
use Rattle.cmd_build.specs.declared.command.Act.{Act}
use Rattle.cmd_build.specs.declared.command.Command.{Command}
use Rattle.cmd_build.specs.declared.extras.Extras.{Extras}

-- A write command began: its name with the collection, and the beginning of the list of its statements, whose total stands at that place.
pub record BeginsBatch (name coll list old new : List ℕ) (start : ℕ) : Type 0 where
  pub middle : List ℕ
  pub named : Writes old middle ((name, value.Str coll) ∷ [])
  pub begins : Begins kinds.Array list middle new start

-- The list of a write command ended, and what stands behind it in each was written.
pub record EndsBatch (start : ℕ) (old new : List ℕ) : Type 0 where
  pub middle : List ℕ
  pub ends : Ends start old middle
  pub ordered : Writes middle new ((codes "ordered", value.Bool true) ∷ [])

-- The fields of a find.
abbrev pub find_fields : List ℕ → Document → List Field
find_fields coll filter =
    (codes "find", value.Str coll)
    ∷ (codes "filter", Doc filter)
    ∷ (codes "limit", value.Int32 (pos 1))
    ∷ (codes "singleBatch", value.Bool true)
    ∷ []

-- What a command asks for, with the fields behind that which stand in every command of its kind; and those that stand where they are given.
abbrev pub front_fields : Command → List ℕ → List Field
front_fields c db =
    act_fields c.coll c.act
    ++ given (codes "writeConcern") (concern_of c.act)
    ++ (codes "apiVersion", value.Str (codes "1"))
    ∷ (codes "$db", value.Str (db_of c.db db))
    ∷ []

abbrev pub extra_fields : Act → Extras → Option ClusterTime → List Field
extra_fields act extras time =
    given (codes "$readPreference") (preference_of act extras)
    ++ given (codes "lsid") (session_of extras.lsid)
    ++ given (codes "txnNumber") (number_of extras.number)
    ++ given (codes "$clusterTime") (time_of time)

-- An outermost document was written behind what was there.
pub record WroteAll (old new : List ℕ) (d : Document) : Type 0 where
  pub bytes : new ≡ old ++ spelled d
  pub known : AllByRecursion ElementSpells d.elements
  pub size : length (spelled d) ≤ most_bytes

-- What stops a writer of fields: that the document of them is too deep, or has too many bytes, or want of memory.
abbrev pub Stopped : List Field → EncodeFault → Type 0
Stopped fields fault.Deep = most_levels < depth_of (record { elements = fields })
Stopped fields fault.Long = most_bytes < length (spelled (record { elements = fields }))
Stopped fields fault.Memory = Unit {0}
