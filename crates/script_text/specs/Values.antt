-- What the members of a line say (own): none where a value is not of the kind that the member is to have.
use Rattle.std.specs.Prelude.{ℕ, ◌==◌, ◌&&◌, ◌||◌, List, length, Bool, true, false, Option, Some, None, nat_le, if◌then◌else◌, is_some, option_map, option_and_then, position}
use Rattle.serde_json.specs.Data.{Num, unsigned, negative, float, Data}
use Rattle.serde_json.specs.Find.{get, as_bool, as_number, as_object, as_str, as_u64, is_float}
use Rattle.cmd_build.specs.Ops.{op_named}
use Rattle.cmd_build.specs.declared.op.Op.{Op}
use Rattle.script_text.specs.Members.{name_of}
use Rattle.script_text.specs.declared.member.Member.{Member}
use Rattle.script_text.specs.declared.member.Member.TheVariants as line

-- The member's value.
abbrev pub value_at : Member → Data → Option Data
value_at m d = get (name_of m) d

-- A text.
abbrev pub text_at : Member → Data → Option (List ℕ)
text_at m d = option_and_then as_str (value_at m d)

-- What the command does: the name of one.
abbrev pub op_in : Data → Option Op
op_in d = option_and_then op_named (text_at line.Op d)

-- The lane is a number that is held as an integer; its number, none where it is not from 1 to 64.
abbrev pub integer_from : Num → Option Num
integer_from n = if is_float n then None else Some n

abbrev pub lane_number : Num → Option ℕ
lane_number (unsigned n) = if nat_le 1 n && nat_le n 64 then Some n else None
lane_number (negative z) = None
lane_number (float x) = None

abbrev pub lane_at : Data → Option (Option ℕ)
lane_at d = option_map lane_number (option_and_then integer_from (option_and_then as_number (value_at line.Lane d)))

-- A name of a collection or a database: a text that is not empty and has no zero byte.
abbrev pub name_from : List ℕ → Option (List ℕ)
name_from text = if (length text == 0) || is_some (position (λ b. b == 0) text) then None else Some text

abbrev pub name_at : Member → Data → Option (List ℕ)
name_at m d = option_and_then name_from (text_at m d)

-- An absent database is none; one that is there is a name.
abbrev pub db_from : Option Data → Option (Option (List ℕ))
db_from None = Some None
db_from (Some d) = option_map Some (option_and_then name_from (as_str d))

abbrev pub db_at : Data → Option (Option (List ℕ))
db_at d = db_from (value_at line.Db d)

-- An object.
abbrev pub object_from : Data → Option Data
object_from d = if is_some (as_object d) then Some d else None

abbrev pub object_at : Member → Data → Option Data
object_at m d = option_and_then object_from (value_at m d)

-- A truth value, false where it is absent.
abbrev pub flag_from : Option Data → Option Bool
flag_from None = Some false
flag_from (Some d) = as_bool d

abbrev pub flag_at : Member → Data → Option Bool
flag_at m d = flag_from (value_at m d)

-- A limit is 0, which stands for all, or 1, or absent, which stands for 1.
abbrev pub all_of : ℕ → Option Bool
all_of n = if n == 0 then Some true else (if n == 1 then Some false else None)

abbrev pub all_from : Option Data → Option Bool
all_from None = Some false
all_from (Some d) = option_and_then all_of (option_and_then as_u64 (as_number d))

abbrev pub all_at : Data → Option Bool
all_at d = all_from (value_at line.Limit d)

-- A findAndModify has a change, or else `remove` that is true: the change, none where the document is removed.
abbrev pub removes : Bool → Option Data → Option (Option Data)
removes true None = Some None
removes true (Some change) = None
removes false change = None

abbrev pub change_from : Option Data → Option Data → Option (Option Data)
change_from None change = option_map Some (option_and_then object_from change)
change_from (Some remove) change = option_and_then (λ b. removes b change) (as_bool remove)

abbrev pub change_at : Data → Option (Option Data)
change_at d = change_from (value_at line.Remove d) (value_at line.Change d)
