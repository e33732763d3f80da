-- What one line of a script says (own): the shape of its members, then its lane, then its documents.
use Rattle.std.specs.Prelude.{◌≡◌, ℕ, List, Bool, true, false, Option, Some, None, Result, Ok, Err, if◌then◌else◌}
use Rattle.std.specs.Str.{is_utf8}
use Rattle.serde_json.specs.Data.{Data}
use Rattle.serde_json.specs.Read.{read}
use Rattle.bson_doc.specs.declared.value.Document.{Document}
use Rattle.bson_text.specs.declared.fault.TextFault.{TextFault}
use Rattle.bson_text.specs.Reading.{reading}
use Rattle.cmd_build.specs.declared.command.Act.{Act}
use Rattle.cmd_build.specs.declared.command.Act.TheVariants as act
use Rattle.cmd_build.specs.declared.command.Command.{Command}
use Rattle.cmd_build.specs.declared.op.Op.{Op}
use Rattle.cmd_build.specs.declared.op.Op.TheVariants as op
use Rattle.script_text.specs.Members.{has_members_of}
use Rattle.script_text.specs.Reads.{read_at}
use Rattle.script_text.specs.Values.{all_at, change_at, db_at, flag_at, lane_at, name_at, object_at, op_in}
use Rattle.script_text.specs.declared.fault.ScriptKind.{ScriptKind}
use Rattle.script_text.specs.declared.fault.ScriptKind.TheVariants as kind
use Rattle.script_text.specs.declared.head.Head.{Head}
use Rattle.script_text.specs.declared.member.Member.TheVariants as line
use Rattle.script_text.specs.declared.stop.LineStop.{LineStop}
use Rattle.script_text.specs.declared.stop.LineStop.TheVariants as stop

-- ---- In which order the faults of a line are told

-- A member that is not as the table wants it: the line has not its shape.
abbrev pub need : {A : Type 0} → Option A → (A → Result Command ScriptKind) → Result Command ScriptKind
need None f = Err kind.Shape
need (Some x) f = f x

-- A lane that is not from 1 to 64.
abbrev pub in_lane : Option ℕ → (ℕ → Result Command ScriptKind) → Result Command ScriptKind
in_lane None f = Err kind.Lane
in_lane (Some n) f = f n

-- A document at fault.
abbrev pub with : {A : Type 0} → Result A TextFault → (A → Result Command ScriptKind) → Result Command ScriptKind
with (Err e) f = Err (kind.Text e)
with (Ok x) f = f x

-- ---- What lines ask for

-- What the line of every command says: its lane, its collection, its database.
abbrev pub head_with : Option (Option ℕ) → Option (List ℕ) → Option (Option (List ℕ)) → Option Head
head_with None coll db = None
head_with (Some lane) None db = None
head_with (Some lane) (Some coll) None = None
head_with (Some lane) (Some coll) (Some db) = Some (record { lane = lane; coll = coll; db = db })

abbrev pub head_in : Data → Option Head
head_in d = head_with (lane_at d) (name_at line.Coll d) (db_at d)

abbrev pub command_of : Head → ℕ → Act → Command
command_of head lane act = record { lane = lane; db = head.db; coll = head.coll; act = act }

-- A document that may be absent.
abbrev pub if_read : Result Document TextFault → Result (Option Document) TextFault
if_read (Err e) = Err e
if_read (Ok d) = Ok (Some d)

abbrev pub reading_if : Option Data → Result (Option Document) TextFault
reading_if None = Ok None
reading_if (Some d) = if_read (reading d)

-- What each command's line asks for, member by member in the order of the table.
abbrev pub insert_in : Head → Data → Result Command ScriptKind
insert_in head d =
    need (object_at line.Doc d) (λ doc.
    in_lane head.lane (λ lane.
    with (reading doc) (λ doc.
    Ok (command_of head lane (act.Insert doc)))))

abbrev pub update_in : Head → Data → Result Command ScriptKind
update_in head d =
    need (object_at line.Filter d) (λ filter.
    need (object_at line.Change d) (λ change.
    need (flag_at line.Multi d) (λ multi.
    need (flag_at line.Upsert d) (λ upsert.
    in_lane head.lane (λ lane.
    with (reading filter) (λ filter.
    with (reading change) (λ change.
    Ok (command_of head lane (act.Update filter change multi upsert)))))))))

abbrev pub delete_in : Head → Data → Result Command ScriptKind
delete_in head d =
    need (object_at line.Filter d) (λ filter.
    need (all_at d) (λ all.
    in_lane head.lane (λ lane.
    with (reading filter) (λ filter.
    Ok (command_of head lane (act.Delete filter all))))))

abbrev pub modify_in : Head → Data → Result Command ScriptKind
modify_in head d =
    need (object_at line.Filter d) (λ filter.
    need (change_at d) (λ change.
    in_lane head.lane (λ lane.
    with (reading filter) (λ filter.
    with (reading_if change) (λ change.
    Ok (command_of head lane (act.FindAndModify filter change)))))))

abbrev pub find_in : Head → Data → Result Command ScriptKind
find_in head d =
    need (object_at line.Filter d) (λ filter.
    need (read_at d) (λ read.
    in_lane head.lane (λ lane.
    with (reading filter) (λ filter.
    Ok (command_of head lane (act.Find filter read))))))

abbrev pub act_in : Op → Head → Data → Result Command ScriptKind
act_in op.Insert head d = insert_in head d
act_in op.Update head d = update_in head d
act_in op.Delete head d = delete_in head d
act_in op.FindAndModify head d = modify_in head d
act_in op.Find head d = find_in head d

-- The command that a value is, or its first fault.
unfoldable pub command_from : Data → Result Command ScriptKind
command_from d = need (op_in d) (λ o. if has_members_of o d then need (head_in d) (λ head. act_in o head d) else Err kind.Shape)

-- ---- Lines

-- The value that a line is, of bytes that are UTF-8 and JSON; how a text is read is `serde_json`'s definition.
unfoldable pub parsed : List ℕ → Option Data
parsed line = if is_utf8 line then read line else None

-- What a line says: a line that does not parse is at fault as JSON.
abbrev pub says_of : Option Data → Result Command ScriptKind
says_of None = Err kind.Json
says_of (Some d) = command_from d

abbrev pub line_reading : List ℕ → Result Command ScriptKind
line_reading line = says_of (parsed line)

-- What stopped the reading of a line is its fault, or memory ran out.
abbrev pub Stops : LineStop → Result Command ScriptKind → Type 0
Stops stop.Memory found = Unit {0}
Stops (stop.Fault told) found = found ≡ Err told

-- What stopped the reading of a document is its fault, or memory ran out.
abbrev pub StopsText : {A : Type 0} → LineStop → Result A TextFault → Type 0
StopsText stop.Memory found = Unit {0}
StopsText (stop.Fault told) found = (e : TextFault) × (found ≡ Err e) × (told ≡ kind.Text e)
