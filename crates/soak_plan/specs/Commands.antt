-- The script of a soak: an insert, an update, a delete and a find of one document after another, each by its number.
-- own: what a soak runs.
use Rattle.std.specs.Prelude.{ℕ, zero, suc, pos, ◌%◌, ◌==◌, if◌then◌else◌, false, List, [], ◌∷◌, ◌++◌, None, codes}
use Rattle.bson_doc.specs.declared.value.Document.{Document}
use Rattle.bson_doc.specs.declared.value.Value.{Doc}
use Rattle.bson_doc.specs.declared.value.Value.TheVariants as value
use Rattle.cmd_build.specs.declared.command.Act.{Act}
use Rattle.cmd_build.specs.declared.command.Act.TheVariants as act
use Rattle.cmd_build.specs.declared.command.Command.{Command}

-- {_id: k}
abbrev pub id_of : ℕ → Document
id_of k = record { elements = (codes "_id", value.Int32 (pos k)) ∷ [] }

-- {$set: {v: k}}
abbrev pub set_of : ℕ → Document
set_of k = record { elements = (codes "$set", Doc (record { elements = (codes "v", value.Int32 (pos k)) ∷ [] })) ∷ [] }

-- By the rest of k divided by four.
abbrev pub act_by : ℕ → ℕ → Act
act_by r k =
    if r == 0 then act.Insert (id_of k) else
    if r == 1 then act.Update (id_of k) (set_of k) false false else
    if r == 2 then act.Delete (id_of k) false else
    act.Find (id_of k) None

abbrev pub command_of : ℕ → Command
command_of k = record { lane = 1; db = None; coll = codes "s"; act = act_by (k % 4) k }

-- Those of the numbers below n, in order.
abbrev pub commands_of : ℕ → List Command
commands_of zero = []
commands_of (suc n) = commands_of n ++ command_of n ∷ []
