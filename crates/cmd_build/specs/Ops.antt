-- Which command an act is, and what it may do (CRUD; Retryable Writes, Supported Write Operations).
use Rattle.std.specs.Prelude.{ℕ, Bool, true, false, not, List, [], ◌∷◌, Option, find, codes}
use Rattle.bson_doc.specs.Documents.{is_text}
use Rattle.cmd_build.specs.declared.command.Act.{Act}
use Rattle.cmd_build.specs.declared.command.Act.TheVariants as act
use Rattle.cmd_build.specs.declared.op.Op.{Op}
use Rattle.cmd_build.specs.declared.op.Op.TheVariants as op

-- The command's name (MongoDB, database commands).
abbrev pub op_name : Op → List ℕ
op_name op.Insert = codes "insert"
op_name op.Update = codes "update"
op_name op.Delete = codes "delete"
op_name op.FindAndModify = codes "findAndModify"
op_name op.Find = codes "find"

-- All commands here.
abbrev pub ops : List Op
ops = op.Insert ∷ op.Update ∷ op.Delete ∷ op.FindAndModify ∷ op.Find ∷ []

-- The command of that name, byte by byte; none where no command has it.
abbrev pub op_named : List ℕ → Option Op
op_named name = find (λ o. is_text (op_name o) name) ops

-- The command that an act is.
abbrev pub op_of : Act → Op
op_of (act.Insert doc) = op.Insert
op_of (act.Update filter change multi upsert) = op.Update
op_of (act.Delete filter all) = op.Delete
op_of (act.FindAndModify filter change) = op.FindAndModify
op_of (act.Find filter read) = op.Find

-- It may change data (CRUD, write operations).
abbrev pub writes : Act → Bool
writes (act.Insert doc) = true
writes (act.Update filter change multi upsert) = true
writes (act.Delete filter all) = true
writes (act.FindAndModify filter change) = true
writes (act.Find filter read) = false

-- It is a write of one document, which a server carries out once for a transaction number (Retryable Writes, Supported Write
-- Operations).
abbrev pub retries : Act → Bool
retries (act.Insert doc) = true
retries (act.Update filter change multi upsert) = not multi
retries (act.Delete filter all) = not all
retries (act.FindAndModify filter change) = true
retries (act.Find filter read) = false
